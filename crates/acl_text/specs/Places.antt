-- Where the items of a list's text begin.
use Rattle.std.specs.Prelude.{ℕ, zero, suc, ◌+◌, List, [], ◌∷◌, ◌++◌, length, Option, None}
use Rattle.std.specs.List.{slice_get}
use Rattle.acl_text.specs.Layout.{items_of_line, line_feed, parts}

-- where parts begin, the first at a place, and each other one byte after the end of that before it
abbrev pub begins : ℕ → List (List ℕ) → List ℕ
begins place [] = []
begins place (part ∷ more) = place ∷ begins (place + (length part + 1)) more

-- where the items of lines begin; a line that begins after another begins one byte after its end, with its comment
abbrev pub begins_of_lines : ℕ → List (List ℕ) → List ℕ
begins_of_lines place [] = []
begins_of_lines place (line ∷ more) = begins place (items_of_line line) ++ begins_of_lines (place + (length line + 1)) more

abbrev pub item_places : List ℕ → List ℕ
item_places text = begins_of_lines 0 (parts line_feed text)

-- where an item begins, by its number from 1: so many are before it, and one
abbrev pub item_place : List ℕ → ℕ → Option ℕ
item_place text zero = None
item_place text (suc before) = slice_get (item_places text) before
