use Rattle.txn_core.proofs.Undecided.{ends_are_caused}
use Rattle.txn_core.proofs.laws.ends_are_caused.Goals as goal

pub returns : goal.returns
returns c = ends_are_caused
