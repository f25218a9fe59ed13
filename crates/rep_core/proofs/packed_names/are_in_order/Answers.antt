use Rattle.std.proofs.Common.{rules}
use Rattle.rep_core.proofs.PackedNames.{in_order}
use Rattle.rep_core.proofs.packed_names.are_in_order.Goals as goal

pub returns : goal.returns
returns c = λ _. in_order c.loop-name.before.now c.loop-name.name-iterator c.args.list.now (search rules) c.loop-name.invariant
