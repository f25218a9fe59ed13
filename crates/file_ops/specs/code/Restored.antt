-- What the code leaves of stored rows: what an error leaves, and what a new row changes.
use Rattle.std.specs.Prelude.{◌≡◌, ℕ, ◌≤◌, ◌==◌, if◌then◌else◌, List, Option}
use Rattle.std.specs.Option.{option_map}
use Rattle.std.specs.Ordering.{nat_cmp}
use Rattle.sorted_map.specs.SortedMap.{IsOrdered}
use Rattle.file_ops.specs.declared.stored.StoredRow.{StoredRow}
use Rattle.file_ops.specs.code.Capacity.{capacity_at, capacity_of}
use Rattle.file_ops.specs.code.Edits.{edited, put_name}
use Rattle.file_ops.specs.Rows.{row_of, with_row}
use Rattle.file_ops.specs.code.Stored.{StoredRows, plain, plain_row}

-- rows that are seen as before, and whose folders can hold as many names
pub record Restores (before after : StoredRows) : Type 0 where
  pub rows : plain after ≡ plain before
  pub capacity : (suite : ℕ) → capacity_at before suite ≤ capacity_at after suite

-- a name put in a folder for a new row, and that row, in place of the row of its number before
pub record Makes (old new : StoredRows) (folder : ℕ) (name : List ℕ) (number : ℕ) (row : StoredRow) (before : Option StoredRow) : Type 0 where
  pub ordered : IsOrdered nat_cmp old
  pub rows : plain new ≡ with_row (edited (plain old) folder (put_name name number)) number (plain_row row)
  pub made_over : option_map plain_row before ≡ row_of (edited (plain old) folder (put_name name number)) number
  pub capacity : (suite : ℕ) → capacity_at old suite ≤ (if suite == number then capacity_of before else capacity_at new suite)
