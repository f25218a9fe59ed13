-- The entries that a text spells, after acl(5), "ACL TEXT FORMS", and the faults of a text that spells
-- none. What is said of an item is said of its fields.
use Rattle.std.specs.Prelude.{ℕ, ◌==◌, nat_le, Bool, ◌&&◌, ◌||◌, if◌then◌else◌, List, [], ◌∷◌, length, count_by, Option, None, Some, Result, Ok, Err}
use Rattle.std.specs.Char.{is_ascii_digit}
use Rattle.std.specs.List.{list_all, list_any}
use Rattle.std.specs.Option.{ok_or}
use Rattle.std.specs.Result.{result_map_both}
use Rattle.acl_core.specs.declared.entry.Tag.{Tag}
use Rattle.acl_core.specs.declared.entry.Tag.TheVariants as tag
use Rattle.acl_core.specs.declared.entry.Entry.{Entry}
use Rattle.acl_core.specs.Entries.{entry_of}
use Rattle.acl_core.specs.Permissions.{digit_of}
use Rattle.acl_text.specs.declared.item.ItemFault.{ItemFault}
use Rattle.acl_text.specs.declared.item.ItemFault.TheVariants as item
use Rattle.acl_text.specs.declared.item.SidedEntry.{SidedEntry}
use Rattle.acl_text.specs.declared.item.Side.TheVariants.{Access, Default}
use Rattle.acl_text.specs.declared.keyword.Keyword.{Keyword}
use Rattle.acl_text.specs.declared.keyword.Keyword.TheVariants.{User, Group, Mask, Other}
use Rattle.acl_text.specs.Layout.{fields_of, is_white}
use Rattle.acl_text.specs.Keywords.{keyword_of, single_keyword_of, is_default}
use Rattle.acl_text.specs.Qualifiers.{is_name_byte, id_of}
use Rattle.acl_text.specs.Sides.{sided_entry}
use Rattle.acl_text.specs.Tables.{Tables, number_in}

-- how often a byte stands in a field, and whether it does
abbrev pub times_in : ℕ → List ℕ → ℕ
times_in byte field = count_by (λ b. b == byte) field

abbrev pub stands_in : ℕ → List ℕ → Bool
stands_in byte field = list_any (λ b. b == byte) field

-- the bytes of permissions
abbrev pub letter_r : ℕ
letter_r = 114

abbrev pub letter_w : ℕ
letter_w = 119

abbrev pub letter_x : ℕ
letter_x = 120

abbrev pub hyphen : ℕ
hyphen = 45

abbrev pub permission_bytes : List ℕ
permission_bytes = letter_r ∷ letter_w ∷ letter_x ∷ []

abbrev pub is_permission_byte : ℕ → Bool
is_permission_byte byte = list_any (λ b. byte == b) permission_bytes || (byte == hyphen)

-- permissions: r, w and x, each once at most and in any order, and three hyphens at most, anywhere
abbrev pub are_permissions : List ℕ → Bool
are_permissions field =
    list_all is_permission_byte field
    && list_all (λ byte. nat_le (times_in byte field) 1) permission_bytes
    && nat_le (times_in hyphen field) 3

-- as an octal digit
abbrev pub permission_digit : List ℕ → ℕ
permission_digit field = digit_of (stands_in letter_r field) (stands_in letter_w field) (stands_in letter_x field)

-- whether a field can be the qualifier of an entry: empty for the mask and for all others
abbrev pub fits_keyword : Keyword → List ℕ → Bool
fits_keyword User qualifier = list_all is_name_byte qualifier
fits_keyword Group qualifier = list_all is_name_byte qualifier
fits_keyword Mask qualifier = length qualifier == 0
fits_keyword Other qualifier = length qualifier == 0

-- the user or the group of a qualifier: digits alone are a number, and all else a name
abbrev pub numbered : List (List ℕ × ℕ) → List ℕ → Result ℕ ItemFault
numbered table qualifier =
    if list_all is_ascii_digit qualifier then ok_or (id_of qualifier) item.NumberTooBig else ok_or (number_in table qualifier) item.UnknownName

-- whom an entry is about
abbrev pub tag_of : Tables → Keyword → List ℕ → Result Tag ItemFault
tag_of names User [] = Ok tag.UserObj
tag_of names User qualifier = result_map_both tag.User (λ fault. fault) (numbered names.users qualifier)
tag_of names Group [] = Ok tag.GroupObj
tag_of names Group qualifier = result_map_both tag.Group (λ fault. fault) (numbered names.groups qualifier)
tag_of names Mask qualifier = Ok tag.Mask
tag_of names Other qualifier = Ok tag.Other

-- the entry of a keyword, a qualifier and permissions
abbrev pub entry_reading : Tables → Option Keyword → List ℕ → List ℕ → Result Entry ItemFault
entry_reading names None qualifier permissions = Err item.Syntax
entry_reading names (Some keyword) qualifier permissions =
    if fits_keyword keyword qualifier && are_permissions permissions
    then result_map_both (λ tag. entry_of tag (permission_digit permissions)) (λ fault. fault) (tag_of names keyword qualifier)
    else Err item.Syntax

-- the entry of some fields: a keyword, a qualifier and permissions; the mask and all others may do
-- without their empty qualifier and its colon
abbrev pub fields_reading : Tables → List (List ℕ) → Result Entry ItemFault
fields_reading names (word ∷ permissions ∷ []) = entry_reading names (single_keyword_of word) [] permissions
fields_reading names (word ∷ qualifier ∷ permissions ∷ []) = entry_reading names (keyword_of word) qualifier permissions
fields_reading names fields = Err item.Syntax

-- what fields say: an entry of the access list, or, behind the word of a default list, one of that
abbrev pub sided_reading : Tables → List (List ℕ) → Result SidedEntry ItemFault
sided_reading names [] = Err item.Syntax
sided_reading names (word ∷ fields) =
    if is_default word then result_map_both (sided_entry Default) (λ fault. fault) (fields_reading names fields)
    else result_map_both (sided_entry Access) (λ fault. fault) (fields_reading names (word ∷ fields))

-- what an item says: nothing, where there is nothing but white space, or an entry of one of the two lists
abbrev pub reading : Tables → List ℕ → Result (Option SidedEntry) ItemFault
reading names bytes =
    if list_all is_white bytes then Ok None else result_map_both Some (λ fault. fault) (sided_reading names (fields_of bytes))
