-- The rules of valid prefixes and copies as tests. Lists, votes, names and numbers are right by their types; what is left to be tested
-- stands here.
use Rattle.std.specs.Prelude.{◌==◌, nat_lt, nat_le, Bool, true, false, ◌&&◌, not, if◌then◌else◌, length, is_some}
use Rattle.acl_core.specs.declared.lists.Lists.{Lists}
use Rattle.acl_core.specs.Pairs.{same_lists}
use Rattle.suite_content.specs.declared.content.Content.{Content}
use Rattle.suite_content.specs.declared.content.Content.TheVariants.{Bytes, Names}
use Rattle.suite_content.specs.Limits.{max_names, max_content}
use Rattle.suite_prefix.specs.TwoLists.{closed_lists}
use Rattle.suite_prefix.specs.declared.copies.PrefixKind.{PrefixKind}
use Rattle.suite_prefix.specs.declared.copies.PrefixKind.TheVariants.{Absent, File, Folder}
use Rattle.suite_prefix.specs.declared.copies.Prefix.{Prefix}
use Rattle.suite_prefix.specs.declared.copies.Replica.{Replica}

-- the list of mode 000, and no default list
abbrev pub is_closed : Lists → Bool
is_closed acl = same_lists acl closed_lists

-- nobody's, and granting nothing
abbrev pub is_nothing : Prefix → Bool
is_nothing prefix = (prefix.owner == 0) && (prefix.group == 0) && is_closed prefix.acl

-- version 0 is that of what was never made, and of nothing else, and only folders have a default list
abbrev pub keeps_rules : PrefixKind → Prefix → Bool
keeps_rules Absent prefix = (prefix.pver == 0) && is_nothing prefix
keeps_rules File prefix = nat_lt 0 prefix.pver && not (is_some prefix.acl.default)
keeps_rules Folder prefix = nat_lt 0 prefix.pver

abbrev pub is_valid_prefix : Prefix → Bool
is_valid_prefix prefix = keeps_rules prefix.kind prefix

abbrev pub is_absent : PrefixKind → Bool
is_absent Absent = true
is_absent File = false
is_absent Folder = false

-- whether a content is a file's bytes
abbrev pub is_bytes : Content → Bool
is_bytes (Bytes bytes) = true
is_bytes (Names names) = false

-- whether what has a prefix of this kind holds such a content
abbrev pub holds : PrefixKind → Content → Bool
holds Absent content = is_bytes content
holds File content = is_bytes content
holds Folder content = not (is_bytes content)

abbrev pub is_empty : Content → Bool
is_empty (Bytes bytes) = length bytes == 0
is_empty (Names names) = length names == 0

abbrev pub is_within_limits : Content → Bool
is_within_limits (Bytes bytes) = nat_le (length bytes) max_content
is_within_limits (Names names) = nat_le (length names) max_names

-- content of version 0 is empty, and so is that of what was never made
abbrev pub version_agrees : Replica → Bool
version_agrees copy = if nat_lt 0 copy.dver then not (is_absent copy.prefix.kind) else is_empty copy.content

abbrev pub is_valid_copy : Replica → Bool
is_valid_copy copy = is_valid_prefix copy.prefix && holds copy.prefix.kind copy.content && version_agrees copy && is_within_limits copy.content
