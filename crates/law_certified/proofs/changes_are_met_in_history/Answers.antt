use Rattle.law_certified.proofs.Histories.{changes_are_met_in_history}
use Rattle.law_certified.proofs.changes_are_met_in_history.Goals as goal

pub returns : goal.returns
returns c = changes_are_met_in_history
