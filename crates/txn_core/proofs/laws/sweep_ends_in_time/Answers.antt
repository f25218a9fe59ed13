use Rattle.txn_core.proofs.Swept.{sweep_ends_in_time}
use Rattle.txn_core.proofs.laws.sweep_ends_in_time.Goals as goal

pub returns : goal.returns
returns c = sweep_ends_in_time
