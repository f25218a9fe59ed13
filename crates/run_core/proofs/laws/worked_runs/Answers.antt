use Rattle.run_core.proofs.Worked.{worked_runs}
use Rattle.run_core.proofs.laws.worked_runs.Goals as goal

pub returns : goal.returns
returns c = worked_runs
