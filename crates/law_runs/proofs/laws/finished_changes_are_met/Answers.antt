use Rattle.law_runs.proofs.Finishes.{finished_changes_are_met}
use Rattle.law_runs.proofs.laws.finished_changes_are_met.Goals as goal

pub returns : goal.returns
returns c = finished_changes_are_met
