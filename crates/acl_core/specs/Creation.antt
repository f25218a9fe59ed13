-- The list that a new file or folder gets from its folder's default list, after acl(5), "OBJECT CREATION AND
-- DEFAULT ACLs".
use Rattle.std.specs.Prelude.{ℕ, ◌/◌, ◌%◌, Bool, if◌then◌else◌, List, map, Option, Some, None}
use Rattle.std.specs.List.{list_any}
use Rattle.std.specs.Int.RustNames.{bit_and}
use Rattle.acl_core.specs.declared.entry.Tag.{Tag}
use Rattle.acl_core.specs.declared.entry.Tag.TheVariants.{UserObj, User, GroupObj, Group, Mask, Other}
use Rattle.acl_core.specs.declared.entry.Entry.{Entry}
use Rattle.acl_core.specs.Entries.{entry_of}
use Rattle.acl_core.specs.Permissions.{number_of}
use Rattle.acl_core.specs.Tags.{same_tag}

-- whether a list has a mask
abbrev pub has_mask : List Entry → Bool
has_mask list = list_any (λ e. same_tag e.tag Mask) list

-- the digit of a mode that limits an entry: the owner's, the group's or the others'. Where there is a mask, the
-- group's digit limits the mask and leaves the file's group alone. Named users and groups have no digit.
abbrev pub limit_of : Bool → ℕ → Tag → Option ℕ
limit_of masked mode UserObj = Some (mode / 64)
limit_of masked mode (User id) = None
limit_of masked mode GroupObj = if masked then None else Some (mode / 8 % 8)
limit_of masked mode (Group id) = None
limit_of masked mode Mask = Some (mode / 8 % 8)
limit_of masked mode Other = Some (mode % 8)

-- an entry with no more than a digit grants
abbrev pub cut_to : Option ℕ → Entry → Entry
cut_to None entry = entry
cut_to (Some digit) entry = entry_of entry.tag (bit_and (number_of entry.perms) digit)

-- the list of what is made with a mode in a folder with this default list: the same entries, three of them cut
abbrev pub inherited : List Entry → ℕ → List Entry
inherited list mode = map (λ e. cut_to (limit_of (has_mask list) mode e.tag) e) list
