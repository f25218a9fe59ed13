use Rattle.suite_session.proofs.Vocabulary.{◌≡◌, ◌||◌, ℕ, drop, map, has}
use Rattle.suite_session.proofs.named.add_numbers.Given as goal

abbrev pub invariant-loop-number : goal.invariant-loop-number
invariant-loop-number l =
    (one : ℕ) → (has l.numbers.keys one || has (map (λ name. name.1) (drop l.number-index l.names)) one) ≡ (has l.fn.numbers.keys one || has (map (λ name. name.1) l.names) one)
