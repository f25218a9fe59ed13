-- Edits of one row.
use Rattle.std.specs.Prelude.{ℕ, List, Option, None}
use Rattle.std.specs.Option.{option_map_or}
use Rattle.acl_core.specs.declared.lists.Lists.{Lists}
use Rattle.vote_core.specs.Quorums.{Configuration}
use Rattle.suite_content.specs.declared.content.Content.{Content}
use Rattle.suite_content.specs.declared.content.Content.TheVariants.{Bytes, Names}
use Rattle.suite_content.specs.Folders.{number_of, with_name, without_name}
use Rattle.file_ops.specs.Rows.{Row, Rows, row_of, with_row, with_acl, with_votes, with_content}

-- the rows with one row edited, where it is there
abbrev pub edited : Rows → ℕ → (Row → Row) → Rows
edited rows suite edit = option_map_or (λ row. with_row rows suite (edit row)) (row_of rows suite) rows

-- the number of a name in a folder, where both are there
abbrev pub number_in : Content → List ℕ → Option ℕ
number_in (Names names) name = number_of names name
number_in (Bytes bytes) name = None

abbrev pub number_at : Rows → ℕ → List ℕ → Option ℕ
number_at rows suite name = option_map_or (λ row. number_in row.content name) (row_of rows suite) None

-- other content
abbrev pub put_content : Content → Row → Row
put_content content row = with_content row content

-- other lists, other votes, another row
abbrev pub put_acl : Lists → Row → Row
put_acl acl row = with_acl row acl

abbrev pub put_votes : Configuration → Row → Row
put_votes votes row = with_votes row votes

abbrev pub put_row : Row → Row → Row
put_row other row = other

-- other names in a folder; a file stays as it is
abbrev pub in_names : (List (List ℕ × ℕ) → List (List ℕ × ℕ)) → Content → Content
in_names edit (Names names) = Names (edit names)
in_names edit (Bytes bytes) = Bytes bytes

abbrev pub put_name : List ℕ → ℕ → Row → Row
put_name name number row = with_content row (in_names (λ names. with_name names name number) row.content)

abbrev pub drop_name : List ℕ → Row → Row
drop_name name row = with_content row (in_names (λ names. without_name names name) row.content)
