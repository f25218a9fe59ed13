-- How many names the folders of stored rows can hold without memory. It shrinks nowhere while names come and go, so a name that was taken out can always be put back.
use Rattle.std.specs.Prelude.{◌≡◌, ℕ, ◌+◌, ◌<◌, ◌≤◌, List, length, Option, None, IfSome}
use Rattle.std.specs.Option.{option_map_or}
use Rattle.std.specs.Ordering.{nat_cmp}
use Rattle.sorted_map.specs.SortedMap.{get}
use Rattle.file_ops.specs.declared.stored.StoredContent.{StoredContent}
use Rattle.file_ops.specs.declared.stored.StoredContent.TheVariants.{Bytes, Names}
use Rattle.file_ops.specs.declared.stored.StoredRow.{StoredRow}
use Rattle.suite_content.specs.Folders.{number_of}
use Rattle.file_ops.specs.code.Stored.{StoredRows}

abbrev pub capacity_in : StoredContent → ℕ
capacity_in (Names names) = length names.pairs + names.room
capacity_in (Bytes bytes) = 0

-- the capacity of the folder of a row, where there is one
abbrev pub capacity_of : Option StoredRow → ℕ
capacity_of row = option_map_or (λ r. capacity_in r.content) row 0

abbrev pub capacity_at : StoredRows → ℕ → ℕ
capacity_at rows suite = capacity_of (get nat_cmp rows suite)

pub record KeepsCapacity (before after : StoredRows) : Type 0 where
  pub kept : (suite : ℕ) → capacity_at before suite ≤ capacity_at after suite

-- a folder that lacks a name has room for it
abbrev pub has_room_for : StoredContent → List ℕ → Type 0
has_room_for (Names names) name = number_of names.pairs name ≡ None → 0 < names.room
has_room_for (Bytes bytes) name = Unit {0}

abbrev pub HasRoom : StoredRows → ℕ → List ℕ → Type 0
HasRoom rows folder name = IfSome (get nat_cmp rows folder) (λ row. has_room_for row.content name)
