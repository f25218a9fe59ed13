use Rattle.txn_core.proofs.Written.{what_is_written_is_fixed}
use Rattle.txn_core.proofs.laws.what_is_written_is_fixed.Goals as goal

pub returns : goal.returns
returns c = what_is_written_is_fixed
