-- The row that a prefix tells, its content not known.
use Rattle.std.specs.Prelude.{Option, Some, None}
use Rattle.suite_prefix.specs.declared.copies.Prefix.{Prefix}
use Rattle.suite_prefix.specs.declared.copies.PrefixKind.{PrefixKind}
use Rattle.suite_prefix.specs.declared.copies.PrefixKind.TheVariants as prefix_kind
use Rattle.suite_content.specs.declared.content.Content.{Content}
use Rattle.suite_content.specs.declared.content.Kind.TheVariants.{File, Folder}
use Rattle.suite_content.specs.Contents.{empty_content}
use Rattle.file_ops.specs.Rows.{Row}

-- a row with this content, and else what a prefix says
abbrev pub row_with : Prefix → Content → Row
row_with prefix content =
    record { owner = prefix.owner; group = prefix.group; acl = prefix.acl; votes = prefix.votes; content = content }

abbrev pub row_of_prefix : Prefix → Option Row
row_of_prefix prefix = of prefix.kind
  where
    of : PrefixKind → Option Row
    of prefix_kind.Absent = None
    of prefix_kind.File = Some (row_with prefix (empty_content File))
    of prefix_kind.Folder = Some (row_with prefix (empty_content Folder))
