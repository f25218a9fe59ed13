-- How names are written.
use Rattle.std.specs.Prelude.{ℕ, List, [], ◌∷◌, ◌++◌, length, codes}
use Rattle.std.specs.Int.{w64, to_be_bytes}
use Rattle.std.specs.List.{flat_map}

-- names, with a comma between each two
abbrev pub with_commas : List (List ℕ) → List ℕ
with_commas [] = []
with_commas (name ∷ names) = name ++ flat_map (λ next. codes "," ++ next) names

-- a name with its number: a byte for the length, the name, and eight bytes for the number, the highest first
abbrev pub numbered_bytes : List ℕ × ℕ → List ℕ
numbered_bytes entry = length entry.0 ∷ entry.0 ++ to_be_bytes w64 entry.1
