use Rattle.txn_core.proofs.Over.{nothing_follows_an_end}
use Rattle.txn_core.proofs.laws.nothing_follows_an_end.Goals as goal

pub returns : goal.returns
returns c = nothing_follows_an_end
