-- The two lists of files and folders are the same by what they show.
use Rattle.acl_core.proofs.Vocabulary.{◌≡◌, List, Option, pointwise, and_parts, and_from, Entry, same_entry, arith}
use Rattle.std.specs.Bool.{Decides}
use Rattle.std.specs.Option.{option_eq}
use Rattle.std.proofs.lemmas.Option.{same_Some}
use Rattle.acl_core.specs.declared.lists.Lists.{Lists}
use Rattle.acl_core.specs.Pairs.{same_lists}
use Rattle.acl_core.proofs.EntryEquality.{same_list_decides}

-- a list that may be missing
pub same_default_decides : (a b : Option (List Entry)) → Decides (option_eq (pointwise same_entry) a b) (a ≡ b)
same_default_decides a b = search (same_list_decides, same_Some, arith)

pub same_lists_decides : (a b : Lists) → Decides (same_lists a b) (a ≡ b)
same_lists_decides a b = search (same_list_decides, same_default_decides, and_parts, and_from, arith)
