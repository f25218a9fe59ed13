use Rattle.txn_core.proofs.Bound.{ends_in_time}
use Rattle.txn_core.proofs.laws.ends_in_time.Goals as goal

pub returns : goal.returns
returns c = ends_in_time
