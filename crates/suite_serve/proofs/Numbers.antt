-- Agents and their numbers.
use Rattle.suite_serve.proofs.Vocabulary.{◌≡◌, ◌∙◌, ap, sym, arith, ℕ, zero, suc, ◌+◌, List, [], ◌∷◌, none-some, same_Some, slice_get, Some, Played, number_of}
use Rattle.suite_serve.proofs.Vocabulary.{AreNumbered}

-- the agent at a place has its number
pub number_at : (start : ℕ) (players : List Played) → AreNumbered start players → (player : Played) (place : ℕ) → slice_get players place ≡ Some player → number_of player ≡ start + place
number_at start [] are player place there = absurd (none-some player there)
number_at start (p ∷ players) are player zero there = ap number_of (sym (same_Some p player there)) ∙ are.0 ∙ omega arith
number_at start (p ∷ players) are player (suc place) there = number_at (start + 1) players are.1 player place there ∙ omega arith
