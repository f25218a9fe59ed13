use Rattle.law_run_recovers.proofs.Stored.{all_is_stored}
use Rattle.law_run_recovers.proofs.all_is_stored.Goals as goal

pub returns : goal.returns
returns c = all_is_stored
