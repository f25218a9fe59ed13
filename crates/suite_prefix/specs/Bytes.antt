-- The bytes of a copy, in each form. Numbers have their highest byte first.
use Rattle.std.specs.Prelude.{◌≡◌, ℕ, List, [], ◌∷◌, ◌++◌, length}
use Rattle.std.specs.List.{flat_map}
use Rattle.std.specs.Int.{w16, w32, w64, to_be_bytes}
use Rattle.acl_core.specs.declared.entry.Tag.{Tag}
use Rattle.acl_core.specs.declared.entry.Tag.TheVariants.{UserObj, User, GroupObj, Group, Mask, Other}
use Rattle.acl_core.specs.declared.entry.Entry.{Entry}
use Rattle.acl_core.specs.declared.lists.Lists.{Lists}
use Rattle.acl_core.specs.Tags.{qualifier}
use Rattle.acl_core.specs.Permissions.{number_of}
use Rattle.vote_core.specs.Quorums.{Configuration, Representative}
use Rattle.suite_content.specs.declared.content.Content.{Content}
use Rattle.suite_content.specs.declared.content.Content.TheVariants.{Bytes, Names}
use Rattle.suite_prefix.specs.declared.copies.PrefixKind.{PrefixKind}
use Rattle.suite_prefix.specs.declared.copies.PrefixKind.TheVariants.{Absent, File, Folder}
use Rattle.suite_prefix.specs.declared.copies.Prefix.{Prefix}
use Rattle.suite_prefix.specs.declared.copies.Replica.{Replica}
use Rattle.suite_prefix.specs.declared.forms.Form.{Form}
use Rattle.suite_prefix.specs.declared.forms.Form.TheVariants.{One, Two}
use Rattle.suite_prefix.specs.Copies.{IsCopy}
use Rattle.suite_prefix.specs.Forms.{CanHold, HoldsContent, form_code}
use Rattle.suite_prefix.specs.TwoLists.{default_entries}

-- one byte: the kind
abbrev pub kind_code : PrefixKind → ℕ
kind_code Absent = 0
kind_code File = 1
kind_code Folder = 2

-- one byte: whom an entry is about
abbrev pub tag_code : Tag → ℕ
tag_code UserObj = 1
tag_code (User id) = 2
tag_code GroupObj = 3
tag_code (Group id) = 4
tag_code Mask = 5
tag_code Other = 6

-- the tag, four bytes for the user or the group (0 where there is none), and one for the permissions: read 4, write 2, execute 1, added
abbrev pub entry_bytes : Entry → List ℕ
entry_bytes entry = tag_code entry.tag ∷ to_be_bytes w32 (qualifier entry.tag) ++ number_of entry.perms ∷ []

-- how many entries there are, and the entries
abbrev pub list_bytes : List Entry → List ℕ
list_bytes entries = length entries ∷ flat_map entry_bytes entries

-- those of the access list, and in form 2 those of the default list, of which there are none where there is no such list
abbrev pub lists_bytes : Form → Lists → List ℕ
lists_bytes One lists = list_bytes lists.access
lists_bytes Two lists = list_bytes lists.access ++ list_bytes (default_entries lists.default)

-- a byte for the server, and one for its votes
abbrev pub representative_bytes : Representative → List ℕ
representative_bytes rep = rep.0 ∷ rep.1 ∷ []

-- how many representatives there are, the representatives in listed order, and what a read and a write collect, two bytes each
abbrev pub votes_bytes : Configuration → List ℕ
votes_bytes votes =
    length votes.reps ∷ flat_map representative_bytes votes.reps ++ to_be_bytes w16 votes.r ++ to_be_bytes w16 votes.w

-- the version, the kind, the owner and the group
abbrev pub identity_bytes : Prefix → List ℕ
identity_bytes prefix =
    to_be_bytes w64 prefix.pver ++ kind_code prefix.kind ∷ to_be_bytes w32 prefix.owner ++ to_be_bytes w32 prefix.group

-- these, the lists, and the votes
abbrev pub prefix_bytes : Form → Prefix → List ℕ
prefix_bytes form prefix = identity_bytes prefix ++ lists_bytes form prefix.acl ++ votes_bytes prefix.votes

-- a byte for the length of the name, the name, and eight bytes for the number of its suite
abbrev pub name_bytes : List ℕ × ℕ → List ℕ
name_bytes entry = length entry.0 ∷ entry.0 ++ to_be_bytes w64 entry.1

-- a file: four bytes of length, and the bytes; a folder: two bytes for how many names there are, and the names
abbrev pub content_bytes : Content → List ℕ
content_bytes (Bytes bytes) = to_be_bytes w32 (length bytes) ++ bytes
content_bytes (Names names) = to_be_bytes w16 (length names) ++ flat_map name_bytes names

-- the form, the prefix, the version of the content, and the content
abbrev pub bytes_in : Form → Replica → List ℕ
bytes_in form copy = form_code form ∷ prefix_bytes form copy.prefix ++ to_be_bytes w64 copy.dver ++ content_bytes copy.content

-- what is written
abbrev pub bytes_of : Replica → List ℕ
bytes_of copy = bytes_in Two copy

-- what may be read: these are the bytes of a copy in a form that can hold it
pub record AreBytesOf (copy : Replica) (bytes : List ℕ) : Type 0 where
  pub form : Form
  pub held : CanHold form copy.prefix
  pub content_held : HoldsContent form copy.content
  pub are : bytes ≡ bytes_in form copy

-- what may be read begins nothing else that may be read
abbrev pub NoneBeginsAnother : Type 0
NoneBeginsAnother =
    (copy other : Replica) (bytes rest : List ℕ) → IsCopy copy → IsCopy other → AreBytesOf copy bytes → AreBytesOf other (bytes ++ rest) → (copy ≡ other) × (rest ≡ [])
