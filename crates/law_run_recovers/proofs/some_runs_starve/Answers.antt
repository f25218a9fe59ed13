use Rattle.law_run_recovers.proofs.Contending.{some_runs_starve}
use Rattle.law_run_recovers.proofs.some_runs_starve.Goals as goal

pub returns : goal.returns
returns c = some_runs_starve
