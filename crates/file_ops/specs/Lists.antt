-- The lists that a new file or folder gets, and which lists a file cannot have.
use Rattle.std.specs.Prelude.{ℕ, Bool, false, List, Option, None, Some, is_some}
use Rattle.acl_core.specs.declared.entry.Entry.{Entry}
use Rattle.acl_core.specs.declared.lists.Lists.{Lists}
use Rattle.acl_core.specs.Creation.{inherited}
use Rattle.acl_core.specs.Modes.{minimal_list}
use Rattle.suite_content.specs.declared.content.Kind.{Kind}
use Rattle.suite_content.specs.declared.content.Kind.TheVariants.{File, Folder}
use Rattle.file_ops.specs.declared.operation.Init.{Init}
use Rattle.file_ops.specs.declared.operation.Init.TheVariants as init

-- the list of a mode in a folder that has this default list, or has none
abbrev pub mode_list : Option (List Entry) → ℕ → List Entry
mode_list None mode = minimal_list mode
mode_list (Some default) mode = inherited default mode

-- a new folder gets the default list of the folder in which it is made; a file has none
abbrev pub kept_default : Kind → Option (List Entry) → Option (List Entry)
kept_default File default = None
kept_default Folder default = default

abbrev pub lists_of : Kind → Option (List Entry) → Init → Lists
lists_of kind default (init.Mode mode) = record { access = mode_list default mode; default = kept_default kind default }
lists_of kind default (init.Lists lists) = lists

-- whether a default list is given
abbrev pub gives_default : Init → Bool
gives_default (init.Mode mode) = false
gives_default (init.Lists lists) = is_some lists.default

-- whether a default list would come to a file
abbrev pub is_misplaced : Kind → Bool → Bool
is_misplaced File given = given
is_misplaced Folder given = false
