-- How what an operation changed is undone: what taking it back makes of the rows.
use Rattle.std.specs.Prelude.{◌≡◌, ℕ, ◌≤◌, ◌==◌, true, if◌then◌else◌, Option, Some, None, is_some}
use Rattle.std.specs.Ordering.{nat_cmp}
use Rattle.sorted_map.specs.SortedMap.{remove}
use Rattle.file_ops.specs.declared.undo.Undo.{Undo}
use Rattle.file_ops.specs.declared.undo.Undo.TheVariants.{Nothing, Held, Listed, Voted, Made, Dropped}
use Rattle.file_ops.specs.declared.stored.StoredRow.{StoredRow}
use Rattle.file_ops.specs.Rows.{Rows, row_of}
use Rattle.file_ops.specs.code.Stored.{StoredRows, plain, plain_content, plain_row}
use Rattle.file_ops.specs.code.Edits.{edited, put_acl, put_votes, put_content, put_row, put_name, drop_name}
use Rattle.file_ops.specs.code.Capacity.{capacity_in, capacity_at, capacity_of}

-- the rows with the row that a number had before, or without one
abbrev pub restored : Rows → ℕ → Option StoredRow → Rows
restored rows number (Some before) = edited rows number (put_row (plain_row before))
restored rows number None = remove nat_cmp rows number

-- the rows once a change is undone
abbrev pub taken_back : Undo → Rows → Rows
taken_back Nothing rows = rows
taken_back (Held suite before) rows = edited rows suite (put_content (plain_content before))
taken_back (Listed suite before) rows = edited rows suite (put_acl before)
taken_back (Voted suite before) rows = edited rows suite (put_votes before)
taken_back (Made folder name number before) rows = edited (restored rows number before) folder (drop_name name)
taken_back (Dropped folder name number) rows = edited rows folder (put_name name number)

-- the capacity of a folder once a change is undone
abbrev pub capacity_back : Undo → StoredRows → ℕ → ℕ
capacity_back (Held changed before) rows suite = if suite == changed then capacity_in before else capacity_at rows suite
capacity_back (Made folder name number before) rows suite = if suite == number then capacity_of before else capacity_at rows suite
capacity_back _ rows suite = capacity_at rows suite

-- the suite whose row a change exchanged is still there
abbrev pub IsThere : Undo → Rows → Type 0
IsThere (Held suite before) rows = is_some (row_of rows suite) ≡ true
IsThere (Made folder name number before) rows = is_some (row_of rows number) ≡ true
IsThere _ rows = Unit {0}

-- an undo leads from the rows after a change to those before it
pub record TakesBack (undo : Undo) (before after : StoredRows) : Type 0 where
  pub rows : taken_back undo (plain after) ≡ plain before
  pub capacity : (suite : ℕ) → capacity_at before suite ≤ capacity_back undo after suite
  pub there : IsThere undo (plain after)
