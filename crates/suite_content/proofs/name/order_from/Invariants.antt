use Rattle.suite_content.proofs.Vocabulary.{◌≡◌, ◌≤◌, length, drop, min, nat_cmp, slice_cmp}
use Rattle.suite_content.proofs.name.order_from.Given as goal

-- what the bytes from a place on answer, all of them answer
abbrev pub invariant-loop-at : goal.invariant-loop-at
invariant-loop-at l =
    (l.both ≡ min (length l.left) (length l.right)) ×
    (l.at ≤ l.both) ×
    (slice_cmp nat_cmp (drop l.at l.left) (drop l.at l.right) ≡ slice_cmp nat_cmp l.left l.right)
