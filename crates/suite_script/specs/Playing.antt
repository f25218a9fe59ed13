-- What the lines of a script print, played one after the other.
use Rattle.std.specs.Prelude.{ℕ, ◌+◌, List, [], ◌∷◌, ◌++◌}

-- from what a line prints, and from what it leaves of what it is played on; the lines have numbers, from one on
abbrev pub prints_from : {Stage Own : Type 0} → (Stage → ℕ → Own → List ℕ) → (Stage → ℕ → Own → Stage) → Stage → ℕ → List Own → List ℕ
prints_from line after stage number [] = []
prints_from line after stage number (own ∷ later) = line stage number own ++ prints_from line after (after stage number own) (number + 1) later
