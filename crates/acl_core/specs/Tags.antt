-- Whom an entry is about, after acl(5), "ACL ENTRIES": a kind, and the user or group of a named entry.
use Rattle.std.specs.Prelude.{ℕ, ◌==◌, nat_lt, Bool, ◌&&◌, ◌||◌}
use Rattle.acl_core.specs.declared.entry.Tag.{Tag}
use Rattle.acl_core.specs.declared.entry.Entry.{Entry}
use Rattle.acl_core.specs.declared.search.Named.{Named}
use Rattle.acl_core.specs.declared.search.Named.TheVariants.{Users, Groups}
use Rattle.acl_core.specs.declared.entry.Tag.TheVariants.{UserObj, User, GroupObj, Group, Mask, Other}

-- the place of a kind in a canonical list
abbrev pub rank : Tag → ℕ
rank UserObj = 0
rank (User id) = 1
rank GroupObj = 2
rank (Group id) = 3
rank Mask = 4
rank Other = 5

-- the user or the group of a named entry
abbrev pub qualifier : Tag → ℕ
qualifier (User id) = id
qualifier (Group id) = id
qualifier _ = 0

-- whether two entries are about the same
abbrev pub same_tag : Tag → Tag → Bool
same_tag a b = (rank a == rank b) && (qualifier a == qualifier b)

-- whether a stands before b in a canonical list: by kind, and numbers rising
abbrev pub precedes : Tag → Tag → Bool
precedes a b = nat_lt (rank a) (rank b) || ((rank a == rank b) && nat_lt (qualifier a) (qualifier b))

-- an entry for one user or one group
abbrev pub is_user : Tag → Bool
is_user tag = rank tag == 1

abbrev pub is_group : Tag → Bool
is_group tag = rank tag == 3

-- whether two entries are about the same and grant the same
abbrev pub same_entry : Entry → Entry → Bool
same_entry a b = same_tag a.tag b.tag && (a.perms.0 == b.perms.0)

-- the two kinds of named entries
abbrev pub is_of : Named → Tag → Bool
is_of Users = is_user
is_of Groups = is_group
