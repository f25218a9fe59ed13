use Rattle.history_judge.proofs.Vocabulary.{◌≡◌, ℕ, ◌<◌, Some, slice_get, Contains}
use Rattle.history_judge.proofs.placed.are_among.Given as goal

abbrev pub invariant-loop-number : goal.invariant-loop-number
invariant-loop-number l = (place number : ℕ) → place < l.number-index → slice_get l.own place ≡ Some number → Contains l.theirs number
