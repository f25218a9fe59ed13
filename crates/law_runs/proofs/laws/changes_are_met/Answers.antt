use Rattle.law_runs.proofs.Begun.{changes_are_met}
use Rattle.law_runs.proofs.laws.changes_are_met.Goals as goal

pub returns : goal.returns
returns c = changes_are_met
