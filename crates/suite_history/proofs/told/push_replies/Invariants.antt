use Rattle.std.proofs.Common.{◌≡◌, ◌++◌, length}
use Rattle.file_ops.specs.Steps.{ok_map}
use Rattle.suite_history.specs.Told.{replies_in}
use Rattle.suite_history.proofs.told.push_replies.Given as goal

abbrev pub invariant-loop-part : goal.invariant-loop-part
invariant-loop-part l = ok_map (λ later. l.replies.items ++ later) (replies_in l.parts) ≡ ok_map (λ later. l.fn.replies.items ++ later) (replies_in l.fn.parts)

abbrev pub decreases-loop-part : goal.decreases-loop-part
decreases-loop-part l = length l.parts
