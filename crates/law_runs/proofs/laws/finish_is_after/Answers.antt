use Rattle.law_runs.proofs.Finishes.{finish_is_after}
use Rattle.law_runs.proofs.laws.finish_is_after.Goals as goal

pub returns : goal.returns
returns c = finish_is_after
