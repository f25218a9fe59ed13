use Rattle.txn_core.proofs.Bound.{late_steps_are_few}
use Rattle.txn_core.proofs.laws.late_steps_are_few.Goals as goal

pub returns : goal.returns
returns c = late_steps_are_few
