-- Reading piece by piece.
use Rattle.std.proofs.Common.{◌≡◌, ℕ, List, ◌++◌, Option, Some, None}

-- these bytes were read, and the others are left
abbrev pub ReadSoFar : Option (List ℕ) → List ℕ → Option (List ℕ) → Type 0
ReadSoFar None bytes left = Unit {0}
ReadSoFar (Some all) bytes None = ⊥
ReadSoFar (Some all) bytes (Some left) = all ≡ bytes ++ left

-- the text is written but for a rest
abbrev pub WroteSoFar : Option (List ℕ) → List ℕ → List ℕ → Option (List ℕ) → Type 0
WroteSoFar None text rest written = Unit {0}
WroteSoFar (Some before) text rest None = ⊥
WroteSoFar (Some before) text rest (Some written) = written ++ rest ≡ before ++ text
