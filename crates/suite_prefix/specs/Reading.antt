-- Reading the bytes of a copy from the left. What is read is the shape of a copy: its parts as they stand in the bytes. The first fault is
-- that the bytes end too early, or that the form, the kind or the tag of an entry is none.
use Rattle.std.specs.Prelude.{◌≡◌, ℕ, zero, suc, List, [], ◌∷◌, length, take, drop, map, Result, Ok, Err, nat_lt, if◌then◌else◌}
use Rattle.std.specs.Int.{Width, w16, w32, w64, byte_len, from_be_bytes}
use Rattle.acl_core.specs.declared.entry.Entry.{Entry}
use Rattle.acl_core.specs.declared.entry.Tag.{Tag}
use Rattle.acl_core.specs.declared.entry.Tag.TheVariants as tags
use Rattle.acl_core.specs.Entries.{entry_of}
use Rattle.vote_core.specs.Quorums.{Configuration, Representative}
use Rattle.suite_content.specs.declared.content.Content.{Content}
use Rattle.suite_content.specs.declared.content.Content.TheVariants.{Bytes, Names}
use Rattle.suite_prefix.specs.TwoLists.{default_of}
use Rattle.suite_prefix.specs.declared.copies.PrefixKind.{PrefixKind}
use Rattle.suite_prefix.specs.declared.copies.PrefixKind.TheVariants.{Absent, File, Folder}
use Rattle.suite_prefix.specs.declared.copies.Replica.{Replica}
use Rattle.suite_prefix.specs.declared.forms.Form.{Form}
use Rattle.suite_prefix.specs.declared.forms.Form.TheVariants.{One, Two}
use Rattle.suite_prefix.specs.declared.faults.CopyFault.{CopyFault}
use Rattle.suite_prefix.specs.declared.faults.CopyFault.TheVariants.{Short, BadTag}
use Rattle.suite_prefix.specs.declared.shapes.EntryShape.{EntryShape}
use Rattle.suite_prefix.specs.declared.shapes.Identity.{Identity}

infixl 10 ◌>>=◌
abbrev pub ◌>>=◌ : {A B : Type 0} → Result A CopyFault → (A → Result B CopyFault) → Result B CopyFault
(Ok x) >>= f = f x
(Err fault) >>= f = Err fault

-- what a function answers, seen by view, is what reading gives
abbrev pub Reads : {X Y : Type 0} → (X → Y) → Result X CopyFault → Result Y CopyFault → Type 0
Reads view (Ok x) read = read ≡ Ok (view x)
Reads view (Err fault) read = read ≡ Err fault

-- the parts of a copy as they stand
pub record Shape : Type 0 where
  pub form : Form
  pub identity : Identity
  pub entries : List EntryShape
  pub default : List EntryShape
  pub votes : Configuration
  pub dver : ℕ
  pub content : Content

-- ---- each part is read as a value and the bytes after it

abbrev pub byte_at : List ℕ → Result (ℕ × List ℕ) CopyFault
byte_at [] = Err Short
byte_at (byte ∷ rest) = Ok (byte, rest)

abbrev pub number_at : Width → List ℕ → Result (ℕ × List ℕ) CopyFault
number_at w bytes = if nat_lt (length bytes) (byte_len w) then Err Short else Ok (from_be_bytes w (take (byte_len w) bytes), drop (byte_len w) bytes)

abbrev pub bytes_at : ℕ → List ℕ → Result (List ℕ × List ℕ) CopyFault
bytes_at n bytes = if nat_lt (length bytes) n then Err Short else Ok (take n bytes, drop n bytes)

abbrev pub form_at : List ℕ → Result (Form × List ℕ) CopyFault
form_at [] = Err Short
form_at (suc zero ∷ rest) = Ok (One, rest)
form_at (suc (suc zero) ∷ rest) = Ok (Two, rest)
form_at (other ∷ rest) = Err BadTag

abbrev pub kind_of_code : ℕ → Result PrefixKind CopyFault
kind_of_code zero = Ok Absent
kind_of_code (suc zero) = Ok File
kind_of_code (suc (suc zero)) = Ok Folder
kind_of_code (suc (suc (suc n))) = Err BadTag

unfoldable pub identity_at : List ℕ → Result (Identity × List ℕ) CopyFault
identity_at bytes = do
  pver ← number_at w64 bytes
  code ← byte_at pver.1
  kind ← kind_of_code code.0
  owner ← number_at w32 code.1
  group ← number_at w32 owner.1
  Ok (record { pver = pver.0; kind = kind; owner = owner.0; group = group.0 }, group.1)

-- the tag with this code, 1 to 6, and this user or group
abbrev pub tag_of : ℕ → ℕ → Tag
tag_of (suc zero) number = tags.UserObj
tag_of (suc (suc zero)) number = tags.User number
tag_of (suc (suc (suc zero))) number = tags.GroupObj
tag_of (suc (suc (suc (suc zero)))) number = tags.Group number
tag_of (suc (suc (suc (suc (suc zero))))) number = tags.Mask
tag_of other number = tags.Other

abbrev pub code_at : List ℕ → Result (ℕ × List ℕ) CopyFault
code_at [] = Err Short
code_at (zero ∷ rest) = Err BadTag
code_at (suc n ∷ rest) = if nat_lt n 6 then Ok (suc n, rest) else Err BadTag

unfoldable pub entry_at : List ℕ → Result (EntryShape × List ℕ) CopyFault
entry_at bytes = do
  code ← code_at bytes
  number ← number_at w32 code.1
  permissions ← byte_at number.1
  Ok (record { tag = tag_of code.0 number.0; number = number.0; permissions = permissions.0 }, permissions.1)

unfoldable pub representative_at : List ℕ → Result (Representative × List ℕ) CopyFault
representative_at bytes = do
  server ← byte_at bytes
  votes ← byte_at server.1
  Ok ((server.0, votes.0), votes.1)

unfoldable pub name_at : List ℕ → Result ((List ℕ × ℕ) × List ℕ) CopyFault
name_at bytes = do
  len ← byte_at bytes
  name ← bytes_at len.0 len.1
  suite ← number_at w64 name.1
  Ok ((name.0, suite.0), suite.1)

-- so many of a kind, one after the other
unfoldable pub many_at : {X : Type 0} → (List ℕ → Result (X × List ℕ) CopyFault) → ℕ → List ℕ → Result (List X × List ℕ) CopyFault
many_at one zero bytes = Ok ([], bytes)
many_at one (suc n) bytes = do
  first ← one bytes
  others ← many_at one n first.1
  Ok (first.0 ∷ others.0, others.1)

unfoldable pub list_at : List ℕ → Result (List EntryShape × List ℕ) CopyFault
list_at bytes = do
  count ← byte_at bytes
  many_at entry_at count.0 count.1

-- form 1 has no default list
abbrev pub default_at : Form → List ℕ → Result (List EntryShape × List ℕ) CopyFault
default_at One bytes = Ok ([], bytes)
default_at Two bytes = list_at bytes

-- the entries of the access list, and those of the default list
unfoldable pub lists_at : Form → List ℕ → Result ((List EntryShape × List EntryShape) × List ℕ) CopyFault
lists_at form bytes = do
  access ← list_at bytes
  default ← default_at form access.1
  Ok ((access.0, default.0), default.1)

unfoldable pub listed_at : List ℕ → Result (List Representative × List ℕ) CopyFault
listed_at bytes = do
  count ← byte_at bytes
  many_at representative_at count.0 count.1

unfoldable pub votes_at : List ℕ → Result (Configuration × List ℕ) CopyFault
votes_at bytes = do
  reps ← listed_at bytes
  r ← number_at w16 reps.1
  w ← number_at w16 r.1
  Ok (record { reps = reps.0; r = r.0; w = w.0 }, w.1)

unfoldable pub file_at : List ℕ → Result (Content × List ℕ) CopyFault
file_at bytes = do
  len ← number_at w32 bytes
  file ← bytes_at len.0 len.1
  Ok (Bytes file.0, file.1)

unfoldable pub folder_at : List ℕ → Result (Content × List ℕ) CopyFault
folder_at bytes = do
  count ← number_at w16 bytes
  names ← many_at name_at count.0 count.1
  Ok (Names names.0, names.1)

abbrev pub content_at : PrefixKind → List ℕ → Result (Content × List ℕ) CopyFault
content_at Absent bytes = file_at bytes
content_at File bytes = file_at bytes
content_at Folder bytes = folder_at bytes

unfoldable pub shape_at : List ℕ → Result (Shape × List ℕ) CopyFault
shape_at bytes = do
  form ← form_at bytes
  identity ← identity_at form.1
  lists ← lists_at form.0 identity.1
  votes ← votes_at lists.1
  dver ← number_at w64 votes.1
  content ← content_at identity.0.kind dver.1
  Ok (record { form = form.0; identity = identity.0; entries = lists.0.0; default = lists.0.1; votes = votes.0; dver = dver.0; content = content.0 }, content.1)

-- ---- the copy that a shape spells

abbrev pub entry_from : EntryShape → Entry
entry_from shape = entry_of shape.tag shape.permissions

abbrev pub copy_of : Shape → Replica
copy_of shape = record {
  prefix = record {
    pver = shape.identity.pver;
    kind = shape.identity.kind;
    owner = shape.identity.owner;
    group = shape.identity.group;
    acl = record { access = map entry_from shape.entries; default = default_of (map entry_from shape.default) };
    votes = shape.votes;
  };
  dver = shape.dver;
  content = shape.content;
}

-- ---- the names that stand in so many places

abbrev pub listed : {X : Type 0} → Result (List X × List ℕ) CopyFault → List X
listed (Ok read) = read.0
listed (Err fault) = []

abbrev pub names_in : ℕ → List ℕ → List (List ℕ × ℕ)
names_in count bytes = listed (many_at name_at count bytes)

-- and the entries
abbrev pub entries_in : ℕ → List ℕ → List EntryShape
entries_in count bytes = listed (many_at entry_at count bytes)
