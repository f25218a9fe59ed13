use Rattle.history_judge.proofs.Vocabulary.{◌≡◌, ◌⊎◌, ℕ, ◌<◌, Some, slice_get, Contains, IsUntold}
use Rattle.history_judge.proofs.placed.are_spared.Given as goal

abbrev pub invariant-loop-number : goal.invariant-loop-number
invariant-loop-number l = (place number : ℕ) → place < l.number-index → slice_get l.theirs place ≡ Some number → Contains l.own number ⊎ IsUntold l.history number
