use Rattle.law_runs.proofs.Finishes.{some_runs_finish}
use Rattle.law_runs.proofs.laws.some_runs_finish.Goals as goal

pub returns : goal.returns
returns c = some_runs_finish
