use Rattle.law_run_recovers.proofs.Worked.{some_runs_recover}
use Rattle.law_run_recovers.proofs.some_runs_recover.Goals as goal

pub returns : goal.returns
returns c = some_runs_recover
