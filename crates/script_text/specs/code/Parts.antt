-- The parts of what is left of a word, and their numbers.
use Rattle.std.specs.Prelude.{ℕ, ◌==◌, nat_le, nat_lt, ◌&&◌, if◌then◌else◌, List, [], Option, Some, None}
use Rattle.std.specs.List.{slice_split}
use denote.Ref.{Bor}

-- the parts of what is left, where something is
abbrev pub parts_left : ℕ → Option (Bor (List ℕ)) → List (List ℕ)
parts_left separator None = []
parts_left separator (Some word) = slice_split (λ byte. byte == separator) word.now

-- what so many digits spelled, where there are some, and it is at most a limit
abbrev pub number_read : ℕ → ℕ → ℕ → Option ℕ
number_read digits value limit = if nat_lt 0 digits && nat_le value limit then Some value else None
