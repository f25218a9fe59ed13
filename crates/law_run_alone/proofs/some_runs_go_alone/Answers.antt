use Rattle.law_run_alone.proofs.Worked.{some_runs_go_alone}
use Rattle.law_run_alone.proofs.some_runs_go_alone.Goals as goal

pub returns : goal.returns
returns c = some_runs_go_alone
