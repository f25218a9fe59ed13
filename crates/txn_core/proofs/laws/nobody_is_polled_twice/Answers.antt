use Rattle.txn_core.proofs.Polls.{nobody_is_polled_twice}
use Rattle.txn_core.proofs.laws.nobody_is_polled_twice.Goals as goal

pub returns : goal.returns
returns c = nobody_is_polled_twice
