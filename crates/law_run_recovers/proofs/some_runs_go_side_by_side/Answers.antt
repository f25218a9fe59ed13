use Rattle.law_run_recovers.proofs.BesideWorked.{some_runs_go_side_by_side}
use Rattle.law_run_recovers.proofs.some_runs_go_side_by_side.Goals as goal

pub returns : goal.returns
returns c = some_runs_go_side_by_side
