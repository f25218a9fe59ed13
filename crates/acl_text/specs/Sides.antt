-- The two lists that a text can speak of: an item is of the access list, or of the default list.
use Rattle.std.specs.Prelude.{List, [], ◌∷◌, Option, None, Some}
use Rattle.std.specs.List.{filter_map}
use Rattle.acl_core.specs.declared.entry.Entry.{Entry}
use Rattle.acl_core.specs.declared.lists.Lists.{Lists}
use Rattle.acl_core.specs.InOrder.{in_order}
use Rattle.acl_text.specs.declared.item.SidedEntry.{SidedEntry}
use Rattle.acl_text.specs.declared.item.Side.{Side}
use Rattle.acl_text.specs.declared.item.Side.TheVariants.{Access, Default}

-- an entry of one of the lists
abbrev pub sided_entry : Side → Entry → SidedEntry
sided_entry side entry = record { side = side; entry = entry }

-- an entry that is of a side, if it is
abbrev pub if_of : Side → Side → Entry → Option Entry
if_of Access Access entry = Some entry
if_of Access Default entry = None
if_of Default Access entry = None
if_of Default Default entry = Some entry

-- the entries of one of the lists, in the order in which they come
abbrev pub entries_of : Side → List SidedEntry → List Entry
entries_of side said = filter_map (λ s. if_of side s.side s.entry) said

-- the default list that some entries make: without entries there is none
abbrev pub default_of : List Entry → Option (List Entry)
default_of [] = None
default_of (entry ∷ entries) = Some (in_order (entry ∷ entries))

-- the entries of a default list, where there is one
abbrev pub default_entries : Option (List Entry) → List Entry
default_entries None = []
default_entries (Some list) = list

-- the two lists that entries make, each in canonical order
abbrev pub lists_of : List SidedEntry → Lists
lists_of said = record { access = in_order (entries_of Access said); default = default_of (entries_of Default said) }
