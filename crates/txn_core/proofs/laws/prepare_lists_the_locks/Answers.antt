use Rattle.txn_core.proofs.PrepareParts.{prepare_lists_the_locks}
use Rattle.txn_core.proofs.laws.prepare_lists_the_locks.Goals as goal

pub returns : goal.returns
returns c = prepare_lists_the_locks
