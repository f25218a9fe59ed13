-- An item of a list's text as it is written, after acl(5), "LONG TEXT FORM" and "SHORT TEXT FORM": the word of a
-- keyword, a colon, a qualifier, a colon and permissions, with white space round each of the three. Nothing
-- here cuts a text or trims it: the choices that a writer has are named, and they make the item.
use Rattle.std.specs.Prelude.{◌≡◌, ℕ, ◌<◌, ◌≤◌, true, false, Bool, if◌then◌else◌, List, [], ◌∷◌, ◌++◌, length, codes, Some}
use Rattle.std.specs.Char.{is_ascii_digit}
use Rattle.std.specs.List.{list_all}
use Rattle.std.specs.Str.Parse.{digits_value}
use Rattle.acl_core.specs.declared.entry.Tag.{Tag}
use Rattle.acl_core.specs.declared.entry.Tag.TheVariants as tag
use Rattle.acl_core.specs.declared.entry.Entry.{Entry}
use Rattle.acl_core.specs.Entries.{entry_of}
use Rattle.acl_core.specs.Permissions.{digit_of}
use Rattle.acl_text.specs.declared.item.Side.{Side}
use Rattle.acl_text.specs.declared.item.Side.TheVariants.{Access, Default}
use Rattle.acl_text.specs.declared.keyword.Keyword.{Keyword}
use Rattle.acl_text.specs.declared.keyword.Keyword.TheVariants.{User, Group, Mask, Other}
use Rattle.acl_text.specs.Grammar.{letter_r, letter_w, letter_x, hyphen, is_permission_byte, times_in}
use Rattle.acl_text.specs.Keywords.{word_of, letter_of}
use Rattle.acl_text.specs.Layout.{colon, is_white}
use Rattle.acl_text.specs.Qualifiers.{is_name_byte, max_id}
use Rattle.acl_text.specs.Tables.{Tables, number_in}

-- a text with white space round it
pub record IsSpaced (inner text : List ℕ) : Type 0 where
  pub before : List ℕ
  pub after : List ℕ
  pub is : text ≡ before ++ (inner ++ after)
  pub white_before : list_all is_white before ≡ true
  pub white_after : list_all is_white after ≡ true

-- the qualifier of one user or one group: a number, or else a name that has one
pub record Denotes (table : List (List ℕ × ℕ)) (qualifier : List ℕ) (id : ℕ) : Type 0 where
  pub some : 0 < length qualifier
  pub bytes : list_all is_name_byte qualifier ≡ true
  pub number : list_all is_ascii_digit qualifier ≡ true → (digits_value 10 qualifier ≡ id) × (id ≤ max_id)
  pub name : list_all is_ascii_digit qualifier ≡ false → number_in table qualifier ≡ Some id

-- the keyword and the qualifier that say whom an entry is about
abbrev pub Says : Tables → Tag → Keyword → List ℕ → Type 0
Says names tag.UserObj keyword qualifier = (keyword ≡ User) × (qualifier ≡ [])
Says names (tag.User id) keyword qualifier = (keyword ≡ User) × Denotes names.users qualifier id
Says names tag.GroupObj keyword qualifier = (keyword ≡ Group) × (qualifier ≡ [])
Says names (tag.Group id) keyword qualifier = (keyword ≡ Group) × Denotes names.groups qualifier id
Says names tag.Mask keyword qualifier = (keyword ≡ Mask) × (qualifier ≡ [])
Says names tag.Other keyword qualifier = (keyword ≡ Other) × (qualifier ≡ [])

-- permissions: a letter for each that is granted, and up to three hyphens, in any order
pub record Grants (permissions : List ℕ) (reads writes executes : Bool) : Type 0 where
  pub known : list_all is_permission_byte permissions ≡ true
  pub r : times_in letter_r permissions ≡ (if reads then 1 else 0)
  pub w : times_in letter_w permissions ≡ (if writes then 1 else 0)
  pub x : times_in letter_x permissions ≡ (if executes then 1 else 0)
  pub hyphens : times_in hyphen permissions ≤ 3

-- the three fields with their colons; the mask and all others may do without the second field and its colon
pub record IsLong (word qualifier permissions item : List ℕ) : Type 0 where
  pub first : List ℕ
  pub second : List ℕ
  pub third : List ℕ
  pub of_word : IsSpaced word first
  pub of_qualifier : IsSpaced qualifier second
  pub of_permissions : IsSpaced permissions third
  pub is : item ≡ first ++ colon ∷ (second ++ colon ∷ third)

pub record IsShort (word permissions item : List ℕ) : Type 0 where
  pub first : List ℕ
  pub last : List ℕ
  pub of_word : IsSpaced word first
  pub of_permissions : IsSpaced permissions last
  pub is : item ≡ first ++ colon ∷ last

abbrev pub is_single : Keyword → Bool
is_single User = false
is_single Group = false
is_single Mask = true
is_single Other = true

abbrev pub IsLaidOut : Bool → Keyword → List ℕ → List ℕ → List ℕ → List ℕ → Type 0
IsLaidOut true keyword word qualifier permissions item = IsLong word qualifier permissions item
IsLaidOut false keyword word qualifier permissions item = (is_single keyword ≡ true) × IsShort word permissions item

-- an item that is this entry, with the choices that its writer made
pub record IsItemOf (names : Tables) (entry : Entry) (item : List ℕ) : Type 0 where
  pub whom : Tag
  pub keyword : Keyword
  pub whole_word : Bool
  pub long : Bool
  pub qualifier : List ℕ
  pub permissions : List ℕ
  pub reads : Bool
  pub writes : Bool
  pub executes : Bool
  pub says : Says names whom keyword qualifier
  pub grants : Grants permissions reads writes executes
  pub laid_out : IsLaidOut long keyword (if whole_word then word_of keyword else letter_of keyword) qualifier permissions item
  pub is : entry ≡ entry_of whom (digit_of reads writes executes)

-- an item that is an entry of a default list: the word `default`, or its first letter, a colon, and an item that is
-- the entry
pub record IsDefaultItemOf (names : Tables) (entry : Entry) (item : List ℕ) : Type 0 where
  pub whole_word : Bool
  pub first : List ℕ
  pub rest : List ℕ
  pub of_word : IsSpaced (if whole_word then codes "default" else codes "d") first
  pub of_entry : IsItemOf names entry rest
  pub is : item ≡ first ++ colon ∷ rest

-- an item that says an entry of one of the two lists
abbrev pub SaysItem : Tables → Side → Entry → List ℕ → Type 0
SaysItem names Access entry item = IsItemOf names entry item
SaysItem names Default entry item = IsDefaultItemOf names entry item
