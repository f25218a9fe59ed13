-- The two lists of a file or a folder, as copies keep them.
use Rattle.std.specs.Prelude.{◌<◌, ◌^◌, List, [], ◌∷◌, All, Option, None, Some, IfSome}
use Rattle.acl_core.specs.declared.entry.Entry.{Entry}
use Rattle.acl_core.specs.declared.lists.Lists.{Lists}
use Rattle.acl_core.specs.AccessLists.{IsAcl}
use Rattle.acl_core.specs.Modes.{minimal_list}
use Rattle.acl_core.specs.Tags.{qualifier}

-- the list of mode 000, and no default list
abbrev pub closed_lists : Lists
closed_lists = record { access = minimal_list 0; default = None }

-- the entries of a default list, none where there is no list; and back
abbrev pub default_entries : Option (List Entry) → List Entry
default_entries None = []
default_entries (Some list) = list

abbrev pub default_of : List Entry → Option (List Entry)
default_of [] = None
default_of (entry ∷ entries) = Some (entry ∷ entries)

-- each is a valid list
pub record AreAcls (lists : Lists) : Type 0 where
  pub access : IsAcl lists.access
  pub default : IfSome lists.default IsAcl

-- the users and groups of each fit four bytes
pub record NumbersFit (lists : Lists) : Type 0 where
  pub access : All (λ entry. qualifier entry.tag < 2 ^ 32) lists.access
  pub default : All (λ entry. qualifier entry.tag < 2 ^ 32) (default_entries lists.default)
