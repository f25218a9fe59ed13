use Rattle.law_run_recovers.proofs.Promised.{available}
use Rattle.law_run_recovers.proofs.promises.what_can_be_is_available.Goals as goal

pub returns : goal.returns
returns c = available c.runs_keep_to_sites.ensures
