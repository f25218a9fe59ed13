use Rattle.law_run_recovers.proofs.Again.{one_of_them_is_decided}
use Rattle.law_run_recovers.proofs.one_of_them_is_decided.Goals as goal

pub returns : goal.returns
returns c = one_of_them_is_decided
