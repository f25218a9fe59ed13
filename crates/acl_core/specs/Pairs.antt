-- The two lists of a file or a folder, and when they are the same.
use Rattle.std.specs.Prelude.{Bool, ◌&&◌}
use Rattle.std.specs.Option.{option_eq}
use Rattle.std.specs.Cmp.Lexicographic.{pointwise}
use Rattle.acl_core.specs.declared.lists.Lists.{Lists}
use Rattle.acl_core.specs.Tags.{same_entry}

abbrev pub same_lists : Lists → Lists → Bool
same_lists a b = pointwise same_entry a.access b.access && option_eq (pointwise same_entry) a.default b.default
