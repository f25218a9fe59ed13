use Rattle.rep_core.proofs.PreparedLocks.{prepared_by_prepare}
use Rattle.rep_core.proofs.laws.prepared_by_prepare.Goals as goal

pub returns : goal.returns
returns c = prepared_by_prepare
