-- What a search for a part of a line comes to.
use Rattle.std.specs.Prelude.{ℕ, ◌+◌, List, Option, Some, Result, Ok, Err}
use Rattle.std.specs.List.{slice_get}

-- the place where the part begins, in a line that begins at a place; or what is left, among the places below
abbrev pub found : ℕ → List ℕ → Result ℕ ℕ → Option ℕ
found place more (Ok there) = Some (place + there)
found place more (Err left) = slice_get more left
