-- Sets of permissions, after acl(5), "ACL ENTRIES": read, write, and execute or search.
use Rattle.std.specs.Prelude.{ℕ, ◌<◌, ◌+◌, ◌==◌, Bool, ◌||◌, not, if◌then◌else◌, List, [], ◌∷◌}
use Rattle.std.specs.List.{list_all}
use Rattle.std.specs.Int.RustNames.{bit_and}
use Rattle.acl_core.specs.declared.perms.Perms.{Perms}

-- the three permissions, each by its number in an octal mode
abbrev pub may_read : ℕ
may_read = 4

abbrev pub may_write : ℕ
may_write = 2

abbrev pub may_execute : ℕ
may_execute = 1

abbrev pub permissions : List ℕ
permissions = may_read ∷ may_write ∷ may_execute ∷ []

-- a set as a number: the sum of its permissions, with whatever else was put in
abbrev pub number_of : Perms → ℕ
number_of perms = perms.0

-- a set has no more than these three
abbrev pub IsPermissionSet : Perms → Type 0
IsPermissionSet perms = number_of perms < 8

-- the octal digit of the set with these permissions
abbrev pub digit_of : Bool → Bool → Bool → ℕ
digit_of reads writes executes =
    (if reads then may_read else 0) + (if writes then may_write else 0) + (if executes then may_execute else 0)

-- whether a permission is in a set
abbrev pub has_permission : Perms → ℕ → Bool
has_permission perms permission = bit_and (number_of perms) permission == permission

-- whether a set has each permission that is wanted
abbrev pub has_all : Perms → Perms → Bool
has_all perms wanted = list_all (λ permission. not (has_permission wanted permission) || has_permission perms permission) permissions
