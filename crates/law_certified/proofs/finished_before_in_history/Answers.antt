use Rattle.law_certified.proofs.Histories.{finished_before_in_history}
use Rattle.law_certified.proofs.finished_before_in_history.Goals as goal

pub returns : goal.returns
returns c = finished_before_in_history
