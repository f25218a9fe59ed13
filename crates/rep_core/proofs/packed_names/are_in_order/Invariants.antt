use Rattle.std.proofs.Common.{[]}
use Rattle.rep_core.proofs.PackedNames.{Rises}
use Rattle.rep_core.proofs.packed_names.are_in_order.Given as goal

-- where those that are left go on rising, all rise
abbrev pub invariant-loop-name : goal.invariant-loop-name
invariant-loop-name l = Rises l.before l.name-iterator → Rises [] l.list
