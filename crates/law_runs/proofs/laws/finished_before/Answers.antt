use Rattle.law_runs.proofs.Finishes.{finished_before}
use Rattle.law_runs.proofs.laws.finished_before.Goals as goal

pub returns : goal.returns
returns c = finished_before
