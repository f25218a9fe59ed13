-- What is left of a text that is read item by item.
use Rattle.std.specs.Prelude.{ℕ, List, [], ◌++◌, Option, None, Some}
use Rattle.std.specs.List.{flat_map}
use Rattle.acl_text.specs.declared.cut.Items.{Items}
use Rattle.acl_text.specs.Layout.{parts, items_of_line, comma, line_feed}
use denote.Ref.{Bor}

-- the parts of what is left, where something is
abbrev pub parts_left : ℕ → Option (Bor (List ℕ)) → List (List ℕ)
parts_left separator None = []
parts_left separator (Some bytes) = parts separator bytes.now

-- the items left in the line that was begun, and those of the lines after it
abbrev pub items_left : Items → List (List ℕ)
items_left items = parts_left comma items.line ++ flat_map items_of_line (parts_left line_feed items.lines)
