-- The rows that a table stores, and the table that is seen of them.
use Rattle.std.specs.Prelude.{ℕ, List, [], map, Option, Some, None}
use Rattle.std.specs.Option.{option_map_or}
use Rattle.std.specs.Ordering.{nat_cmp}
use Rattle.sorted_map.specs.SortedMap.{get, replace, remove}
use Rattle.acl_core.specs.declared.lists.Lists.{Lists}
use Rattle.vote_core.specs.Quorums.{Configuration}
use Rattle.suite_content.specs.declared.content.Content.{Content}
use Rattle.suite_content.specs.declared.content.Content.TheVariants as content
use Rattle.suite_content.specs.Folders.{names_in}
use Rattle.file_ops.specs.declared.stored.StoredContent.{StoredContent}
use Rattle.file_ops.specs.declared.stored.StoredContent.TheVariants.{Bytes, Names}
use Rattle.file_ops.specs.declared.stored.StoredRow.{StoredRow}
use Rattle.file_ops.specs.Rows.{Row, Rows}

abbrev pub StoredRows : Type 0
StoredRows = List (ℕ × StoredRow)

-- a folder's names without their room
abbrev pub plain_content : StoredContent → Content
plain_content (Bytes bytes) = content.Bytes bytes
plain_content (Names names) = content.Names names.pairs

-- the names of a folder, as they are listed; of a file, none
abbrev pub listed_in : Content → List (List ℕ)
listed_in (content.Names names) = names_in names
listed_in (content.Bytes bytes) = []

abbrev pub plain_row : StoredRow → Row
plain_row row =
    record { owner = row.owner; group = row.group; acl = row.acl; votes = row.votes; content = plain_content row.content }

abbrev pub plain : StoredRows → Rows
plain rows = map (λ pair. (pair.0, plain_row pair.1)) rows

-- the rows with one row exchanged, where it is there
abbrev pub exchanged : StoredRows → ℕ → (StoredRow → StoredRow) → StoredRows
exchanged rows suite edit = option_map_or (λ row. replace nat_cmp rows suite (edit row)) (get nat_cmp rows suite) rows

-- the rows with the row that a suite had before in place of the one it has, or with none
abbrev pub restored_row : StoredRows → ℕ → Option StoredRow → StoredRows
restored_row rows suite (Some before) = exchanged rows suite (λ row. before)
restored_row rows suite None = remove nat_cmp rows suite

abbrev pub with_stored_content : StoredContent → StoredRow → StoredRow
with_stored_content content row = record row { content = content }

abbrev pub with_stored_acl : Lists → StoredRow → StoredRow
with_stored_acl acl row = record row { acl = acl }

abbrev pub with_stored_votes : Configuration → StoredRow → StoredRow
with_stored_votes votes row = record row { votes = votes }
