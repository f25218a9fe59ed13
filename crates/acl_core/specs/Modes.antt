-- The list of a mode, after acl(5), "CORRESPONDENCE BETWEEN ACL ENTRIES AND FILE PERMISSION BITS".
use Rattle.std.specs.Prelude.{ℕ, ◌/◌, ◌%◌, List, [], ◌∷◌}
use Rattle.acl_core.specs.declared.entry.Tag.TheVariants.{UserObj, GroupObj, Other}
use Rattle.acl_core.specs.declared.entry.Entry.{Entry}
use Rattle.acl_core.specs.Entries.{entry_of}

-- one octal digit each for the owner, the file's group and all others
abbrev pub minimal_list : ℕ → List Entry
minimal_list mode = entry_of UserObj (mode / 64) ∷ entry_of GroupObj (mode / 8 % 8) ∷ entry_of Other (mode % 8) ∷ []
