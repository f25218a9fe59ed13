-- The text of an entry is read as that entry.
use Rattle.acl_text.proofs.Vocabulary.{◌≡◌, ℕ, ◌<◌, ◌≤◌, ◌%◌, ◌&&◌, Bool, true, false, not, eqb, List, [], ◌∷◌, ◌++◌, length, Some, Ok, codes, decimal, refl, ap, ◌∙◌, append_assoc, arith, is_ascii_digit, list_all, result_map_both, all_ascii_digits}
use Rattle.acl_text.proofs.Vocabulary.{agree_below_at, eqb-true, and_from, nat_tests, list_all-append, Tag, Entry, entry_of, may_read, may_write, may_execute, has_permission, digit_of, qualifier, Keyword, User, Group, Mask, Other, Side, Access}
use Rattle.acl_text.proofs.Vocabulary.{Default, reading, entry_reading, fields_reading, fits_keyword, numbered, tag_of, are_permissions, permission_digit, word_of, keyword_of, is_default, is_white, colon, parts, trimmed, fields_of, is_name_byte}
use Rattle.acl_text.proofs.Vocabulary.{max_id, sided_entry, Tables, entry_text, sided_text, tag_text}
use Rattle.std.proofs.lemmas.Fmt.{digits_decimal, decimal_is_IsNumeral}
use Rattle.std.proofs.lemmas.Str.Parse.{numerals_by_value, tells_all_ascii_digits}
use Rattle.acl_core.proofs.EntryEquality.{same_by_fields}
use Rattle.acl_core.specs.declared.entry.Tag.TheVariants as tag
use Rattle.acl_text.proofs.CleanText.{lacks, split_at_byte, trimmed_clean, list_all_wider}
use Rattle.acl_text.proofs.Letters.{three, tail, is_plain, letter_facts}
use Rattle.acl_text.proofs.Numbers.{fits}

-- a printed number is digits alone
digits_alone : (digits : List ℕ) → list_all is_ascii_digit digits ≡ all_ascii_digits digits
digits_alone [] = refl
digits_alone (d ∷ digits) = ap (λ rest. is_ascii_digit d && rest) (digits_alone digits)

decimal_digits : (id : ℕ) → id ≤ max_id → list_all is_ascii_digit (decimal id) ≡ true
decimal_digits id small = digits_alone (decimal id) ∙ digits_decimal (numerals_by_value _ tells_all_ascii_digits) id (omega arith)

name_digit : (b : ℕ) → is_ascii_digit b ≡ true → is_name_byte b ≡ true
name_digit b digit = grind (arith, nat_tests)

plain_digit : (b : ℕ) → is_ascii_digit b ≡ true → is_plain b ≡ true
plain_digit b digit = grind (arith, nat_tests)

no_white_digit : (b : ℕ) → is_ascii_digit b ≡ true → not (is_white b) ≡ true
no_white_digit b digit = grind (arith, nat_tests)

no_colon_digit : (b : ℕ) → is_ascii_digit b ≡ true → not (eqb b colon) ≡ true
no_colon_digit b digit = grind (arith, nat_tests)

-- the keyword of an entry, and its qualifier as it is written
abbrev keyword_of_tag : Tag → Keyword
keyword_of_tag tag.GroupObj = Group
keyword_of_tag (tag.Group id) = Group
keyword_of_tag tag.Mask = Mask
keyword_of_tag tag.Other = Other
keyword_of_tag _ = User

abbrev qualifier_text : Tag → List ℕ
qualifier_text (tag.User id) = decimal id
qualifier_text (tag.Group id) = decimal id
qualifier_text _ = []

-- the three fields of an entry's text
tag_fields : (t : Tag) (rest : List ℕ) → tag_text t ++ rest ≡ word_of (keyword_of_tag t) ++ 58 ∷ (qualifier_text t ++ 58 ∷ rest)
tag_fields t rest = search (append_assoc, arith)

record WordFacts (k : Keyword) : Type 0 where
  no_colon : lacks (λ b. eqb b colon) (word_of k) ≡ true
  trims : trimmed (word_of k) ≡ word_of k
  known : keyword_of (word_of k) ≡ Some k
  no_default : is_default (word_of k) ≡ false
  no_blank : (rest : List ℕ) → list_all is_white (word_of k ++ rest) ≡ false
  plain : list_all is_plain (word_of k) ≡ true

word_facts : (k : Keyword) → WordFacts k
word_facts k = search arith

record QualifierFacts (names : Tables) (t : Tag) : Type 0 where
  no_colon : lacks (λ b. eqb b colon) (qualifier_text t) ≡ true
  trims : trimmed (qualifier_text t) ≡ qualifier_text t
  fit : fits_keyword (keyword_of_tag t) (qualifier_text t) ≡ true
  whom : tag_of names (keyword_of_tag t) (qualifier_text t) ≡ Ok t
  plain : list_all is_plain (qualifier_text t) ≡ true

-- digits are not empty, so that they are looked up
user_of : (names : Tables) (q : List ℕ) → 0 < length q → tag_of names User q ≡ result_map_both tag.User (λ fault. fault) (numbered names.users q)
user_of names q h2 = search arith

group_of : (names : Tables) (q : List ℕ) → 0 < length q → tag_of names Group q ≡ result_map_both tag.Group (λ fault. fault) (numbered names.groups q)
group_of names q h2 = search arith

numbered_decimal : (table : List (List ℕ × ℕ)) (id : ℕ) → id ≤ max_id → numbered table (decimal id) ≡ Ok id
numbered_decimal table id small = search (decimal_is_IsNumeral id (omega arith), decimal_digits id small, fits, arith)

decimal_facts : (id : ℕ) → id ≤ max_id → (0 < length (decimal id)) × (lacks (λ b. eqb b colon) (decimal id) ≡ true) × (trimmed (decimal id) ≡ decimal id)
    × (list_all is_name_byte (decimal id) ≡ true) × (list_all is_plain (decimal id) ≡ true)
decimal_facts id small =
    let digits = decimal_digits id small in (
      (decimal_is_IsNumeral id (omega arith)).0.0,
      list_all_wider is_ascii_digit (λ b. not (eqb b colon)) no_colon_digit (decimal id) digits,
      trimmed_clean (decimal id) (list_all_wider is_ascii_digit (λ b. not (is_white b)) no_white_digit (decimal id) digits),
      list_all_wider is_ascii_digit is_name_byte name_digit (decimal id) digits,
      list_all_wider is_ascii_digit is_plain plain_digit (decimal id) digits,
    )

qualifier_facts : (names : Tables) (t : Tag) → qualifier t ≤ max_id → QualifierFacts names t
qualifier_facts names (tag.User id) small = search (decimal_facts id small, numbered_decimal names.users id small, user_of, arith)
qualifier_facts names (tag.Group id) small = search (decimal_facts id small, numbered_decimal names.groups id small, group_of, arith)
qualifier_facts names _ small = record { no_colon = refl; trims = refl; fit = refl; whom = refl; plain = refl }

-- an item of three fields
reading_fields : (names : Tables) (text word q permissions : List ℕ) (e : Entry) → list_all is_white text ≡ false → fields_of text ≡ word ∷ q ∷ permissions ∷ [] → is_default word ≡ false
    → entry_reading names (keyword_of word) q permissions ≡ Ok e → reading names text ≡ Ok (Some (sided_entry Access e))
reading_fields names text word q permissions e no_blank three_fields no_default read = rw (no_blank, three_fields, no_default, read) refl

-- an item of a default list
reading_marked : (names : Tables) (text : List ℕ) (e : Entry) → fields_reading names (fields_of text) ≡ Ok e → reading names (codes "default:" ++ text) ≡ Ok (Some (sided_entry Default e))
reading_marked names text e read = search arith

-- cut at two colons
cut_fields : (word q last : List ℕ) → lacks (λ b. eqb b colon) word ≡ true → lacks (λ b. eqb b colon) q ≡ true → parts colon last ≡ last ∷ []
    → fields_of (word ++ 58 ∷ (q ++ 58 ∷ last)) ≡ trimmed word ∷ trimmed q ∷ trimmed last ∷ []
cut_fields word q last clean_word clean_q one = search (split_at_byte, arith)

-- what is read of good fields
reading_parts : (names : Tables) (t : Tag) (permissions : List ℕ) → QualifierFacts names t → are_permissions permissions ≡ true
    → entry_reading names (Some (keyword_of_tag t)) (qualifier_text t) permissions ≡ Ok (entry_of t (permission_digit permissions))
reading_parts names t permissions q good = rw (q.fit, good, q.whom) refl

-- the digit of an entry's permissions gives the entry back
same_digit : (n : ℕ) → n < 8 → digit_of (has_permission (record { 0 = n }) may_read) (has_permission (record { 0 = n }) may_write) (has_permission (record { 0 = n }) may_execute) % 8 ≡ n
same_digit n small =
    eqb-true _ _ (agree_below_at (λ b. eqb (digit_of (has_permission (record { 0 = b }) may_read) (has_permission (record { 0 = b }) may_write) (has_permission (record { 0 = b }) may_execute) % 8) b) (λ _. true) 8 n refl small)

entry_of-shown : (e : Entry) → entry_of e.tag (digit_of (has_permission e.perms may_read) (has_permission e.perms may_write) (has_permission e.perms may_execute)) ≡ e
entry_of-shown e = search (same_by_fields, same_digit, arith)

-- the fields of an entry's text, also with a tab after it, and what is read of them
record FieldFacts (names : Tables) (e : Entry) (t : Bool) : Type 0 where
  word : List ℕ
  q : List ℕ
  permissions : List ℕ
  no_blank : list_all is_white (entry_text e ++ tail t) ≡ false
  fields : fields_of (entry_text e ++ tail t) ≡ word ∷ q ∷ permissions ∷ []
  no_default : is_default word ≡ false
  read : entry_reading names (keyword_of word) q permissions ≡ Ok e

field_facts : (names : Tables) (e : Entry) (t : Bool) → qualifier e.tag ≤ max_id → FieldFacts names e t
field_facts names e t small =
    let r = has_permission e.perms may_read in
    let w = has_permission e.perms may_write in
    let x = has_permission e.perms may_execute in
    let k = keyword_of_tag e.tag in
    let q = qualifier_text e.tag in
    let letters = letter_facts r w x t in
    let facts = word_facts k in
    let qualified = qualifier_facts names e.tag small in
    let text = word_of k ++ 58 ∷ (q ++ 58 ∷ (three r w x ++ tail t)) in
    let is : entry_text e ++ tail t ≡ text = append_assoc (tag_text e.tag) (three r w x) (tail t) ∙ tag_fields e.tag (three r w x ++ tail t) in
    let cut : fields_of text ≡ word_of k ∷ q ∷ three r w x ∷ [] =
    cut_fields (word_of k) q (three r w x ++ tail t) facts.no_colon qualified.no_colon letters.one_field
    ∙ (λ i. facts.trims i ∷ qualified.trims i ∷ letters.trims i ∷ []) in
    record {
      word = word_of k;
      q = q;
      permissions = three r w x;
      no_blank = ap (list_all is_white) is ∙ facts.no_blank (58 ∷ (q ++ 58 ∷ (three r w x ++ tail t)));
      fields = ap fields_of is ∙ cut;
      no_default = facts.no_default;
      read = search (three, reading_parts, entry_of-shown, arith);
    }

-- the text of an entry of one of the two lists, also with a tab after it, is read as that entry
pub sided_text_read : (names : Tables) (side : Side) (e : Entry) (t : Bool) → qualifier e.tag ≤ max_id → reading names (sided_text side e ++ tail t) ≡ Ok (Some (sided_entry side e))
sided_text_read names Access e t small = search (field_facts names e t small, tail t, reading_fields, arith)
sided_text_read names Default e t small = search (field_facts names e t small, tail t, reading_marked, arith)

-- an entry's text cuts no text into items
entry_text_plain : (names : Tables) (e : Entry) (t : Bool) → qualifier e.tag ≤ max_id → list_all is_plain (entry_text e ++ tail t) ≡ true
entry_text_plain names e t small =
    let r = has_permission e.perms may_read in
    let w = has_permission e.perms may_write in
    let x = has_permission e.perms may_execute in
    let k = keyword_of_tag e.tag in
    let q = qualifier_text e.tag in
    let last = three r w x ++ tail t in
    let is : entry_text e ++ tail t ≡ word_of k ++ 58 ∷ (q ++ 58 ∷ last) = append_assoc (tag_text e.tag) (three r w x) (tail t) ∙ tag_fields e.tag last in
    let after : list_all is_plain (q ++ 58 ∷ last) ≡ true =
    list_all-append is_plain q (58 ∷ last) ∙ and_from _ _ (qualifier_facts names e.tag small).plain (letter_facts r w x t).plain in
    ap (list_all is_plain) is ∙ list_all-append is_plain (word_of k) (58 ∷ (q ++ 58 ∷ last)) ∙ and_from _ _ (word_facts k).plain after

pub sided_text_plain : (names : Tables) (side : Side) (e : Entry) (t : Bool) → qualifier e.tag ≤ max_id → list_all is_plain (sided_text side e ++ tail t) ≡ true
sided_text_plain names side e t h4 = search (entry_text_plain, arith)
