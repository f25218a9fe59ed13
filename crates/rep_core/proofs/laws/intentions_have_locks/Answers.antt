use Rattle.rep_core.proofs.Reached.{intentions_have_locks}
use Rattle.rep_core.proofs.laws.intentions_have_locks.Goals as goal

pub returns : goal.returns
returns c = intentions_have_locks
