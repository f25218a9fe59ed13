use Rattle.txn_core.proofs.Quorums.{decides_on_quorums}
use Rattle.txn_core.proofs.laws.decides_on_quorums.Goals as goal

pub returns : goal.returns
returns c = decides_on_quorums
