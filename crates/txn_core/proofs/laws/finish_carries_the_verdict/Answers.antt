use Rattle.txn_core.proofs.Mild.{finish_carries_the_verdict}
use Rattle.txn_core.proofs.laws.finish_carries_the_verdict.Goals as goal

pub returns : goal.returns
returns c = finish_carries_the_verdict
