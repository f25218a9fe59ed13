use Rattle.law_runs.proofs.Worked.{some_runs_decide}
use Rattle.law_runs.proofs.laws.some_runs_decide.Goals as goal

pub returns : goal.returns
returns c = some_runs_decide
