use Rattle.rep_core.proofs.Vocabulary.{◌≡◌, ◌-◌, ℕ, length, pairs_at}
use Rattle.rep_core.proofs.verdicts.grow.Given as goal

abbrev pub invariant-loop-maps : goal.invariant-loop-maps
invariant-loop-maps l = (k : ℕ) → pairs_at l.maps.items k ≡ pairs_at l.fn.maps.items k

abbrev pub decreases-loop-maps : goal.decreases-loop-maps
decreases-loop-maps l = l.wanted - length l.maps.items
