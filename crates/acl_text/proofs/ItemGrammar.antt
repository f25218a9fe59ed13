-- An item reads as an entry exactly when it is written as one.
use Rattle.acl_text.proofs.Vocabulary.{◌≡◌, ℕ, ◌<◌, ◌≤◌, Bool, true, false, cond, leb, eqb, not, ◌&&◌, List, [], ◌∷◌, ◌++◌, length, map, Option, Some, None, Result, Ok, codes, refl, sym, ap, subst, ◌∙◌, inl, inr, arith, list_all, list_any, find}
use Rattle.acl_text.proofs.Vocabulary.{count_by, join_with_byte, result_map_both, bytes_eq, and_parts, and_from, or_cases, and_right, cases_Bool, eqb-true, leb-true, nat_tests, list_all-append, join_with_byte-slice_split, count_by-cons, Tag, Entry}
use Rattle.acl_text.proofs.Vocabulary.{entry_of, digit_of, ItemFault, SidedEntry, Side, Access, Default, Keyword, User, Group, Mask, Other, IsSpaced, Denotes, Says, Grants, IsLong, IsShort, IsLaidOut, IsItemOf, IsDefaultItemOf, SaysItem, is_single}
use Rattle.acl_text.proofs.Vocabulary.{word_of, letter_of, keyword_among, keyword_of, single_keyword_of, is_default, colon, is_white, parts, trimmed, fields_of, is_name_byte, sided_entry, Tables, letter_r, letter_w, letter_x, times_in, stands_in}
use Rattle.acl_text.proofs.Vocabulary.{are_permissions, permission_digit, is_permission_byte, numbered, tag_of, fits_keyword, entry_reading, fields_reading, sided_reading, reading}
use Rattle.std.proofs.lemmas.Slice.Eq.{bytes_eq-Decides}
use Rattle.acl_core.specs.declared.entry.Tag.TheVariants as tag
use Rattle.acl_text.specs.declared.item.ItemFault.TheVariants as item
use Rattle.acl_text.proofs.CleanText.{lacks, split_lacking, split_at_byte, list_all_wider}
use Rattle.acl_text.proofs.Trimming.{trimmed_spaced, spaced_by_trimming}

found_passes : (p : Keyword → Bool) (ks : List Keyword) (k : Keyword) → find p ks ≡ Some k → p k ≡ true
found_passes p [] k found = cc
found_passes p (x ∷ ks) k found = search (cases_Bool, found_passes p ks k, arith)

-- the word of a keyword that was found
pub word_chosen : (ks : List Keyword) (word : List ℕ) (k : Keyword) → keyword_among ks word ≡ Some k → (whole : Bool) × (word ≡ cond whole (word_of k) (letter_of k))
word_chosen ks word k found = search (or_cases, found_passes, bytes_eq-Decides, arith)

some_counted : (q : ℕ → Bool) (xs : List ℕ) → list_any q xs ≡ true → 1 ≤ count_by q xs
some_counted q [] some = cc
some_counted q (x ∷ xs) some = search (cases_Bool, count_by-cons, some_counted q xs, arith)

none_counted : (q : ℕ → Bool) (xs : List ℕ) → list_any q xs ≡ false → count_by q xs ≡ 0
none_counted q [] none = refl
none_counted q (x ∷ xs) none = search (cases_Bool, count_by-cons, none_counted q xs, arith)

pub once_if_there : (byte : ℕ) (field : List ℕ) → times_in byte field ≤ 1 → times_in byte field ≡ cond (stands_in byte field) 1 0
once_if_there byte field few = search (cases_Bool, some_counted, none_counted, arith)

pub there_if_once : (byte : ℕ) (field : List ℕ) (granted : Bool) → times_in byte field ≡ cond granted 1 0 → stands_in byte field ≡ granted
there_if_once byte field granted h3 = search (cases_Bool, none_counted, some_counted, arith)

pub few_if_once : (n : ℕ) (granted : Bool) → n ≡ cond granted 1 0 → n ≤ 1
few_if_once n granted h2 = search arith

pub grants_from_test : (field : List ℕ) → are_permissions field ≡ true → Grants field (stands_in letter_r field) (stands_in letter_w field) (stands_in letter_x field)
grants_from_test field all = search (and_parts, once_if_there, leb-true, arith)

pub test_from_grants : (field : List ℕ) (reads writes executes : Bool) → Grants field reads writes executes → are_permissions field ≡ true
test_from_grants field reads writes executes granted = search arith

pub digit_from_grants : (field : List ℕ) (reads writes executes : Bool) → Grants field reads writes executes → permission_digit field ≡ digit_of reads writes executes
digit_from_grants field reads writes executes granted =
    let there = λ (byte : ℕ) (given : Bool) (is : times_in byte field ≡ cond given 1 0). there_if_once byte field given is in
    λ i. digit_of (there letter_r reads granted.r i) (there letter_w writes granted.w i) (there letter_x executes granted.x i)

-- whom a qualifier names
named : (r : Result ℕ ItemFault) (f : ℕ → Tag) (t : Tag) → result_map_both f (λ fault. fault) r ≡ Ok t → (id : ℕ) × (r ≡ Ok id) × (f id ≡ t)
named r f t h3 = search arith

denotes_from : (table : List (List ℕ × ℕ)) (q : List ℕ) (id : ℕ) → 0 < length q → list_all is_name_byte q ≡ true → numbered table q ≡ Ok id → Denotes table q id
denotes_from table q id some bytes is = search arith

numbered_from : (table : List (List ℕ × ℕ)) (q : List ℕ) (id : ℕ) → Denotes table q id → numbered table q ≡ Ok id
numbered_from table q id it = search arith

empty_from : (q : List ℕ) → eqb (length q) 0 ≡ true → q ≡ []
empty_from [] h = refl
empty_from (b ∷ q) h = let none = eqb-true (length (b ∷ q)) 0 h in absurd (omega (arith, none))

pub says_from : (names : Tables) (k : Keyword) (q : List ℕ) (t : Tag) → fits_keyword k q ≡ true → tag_of names k q ≡ Ok t → Says names t k q
says_from names User [] t fits is = let same : tag.UserObj ≡ t = cc in subst (λ t. Says names t User []) same (refl, refl)
says_from names User (b ∷ q) t fits is =
    let n = named (numbered names.users (b ∷ q)) tag.User t is in
    subst (λ t. Says names t User (b ∷ q)) n.2 (refl, denotes_from names.users (b ∷ q) n.0 (omega arith) fits n.1)
says_from names Group [] t fits is = let same : tag.GroupObj ≡ t = cc in subst (λ t. Says names t Group []) same (refl, refl)
says_from names Group (b ∷ q) t fits is =
    let n = named (numbered names.groups (b ∷ q)) tag.Group t is in
    subst (λ t. Says names t Group (b ∷ q)) n.2 (refl, denotes_from names.groups (b ∷ q) n.0 (omega arith) fits n.1)
says_from names Mask q t fits is = let same : tag.Mask ≡ t = cc in subst (λ t. Says names t Mask q) same (refl, empty_from q fits)
says_from names Other q t fits is = let same : tag.Other ≡ t = cc in subst (λ t. Says names t Other q) same (refl, empty_from q fits)

pub record Tagged (names : Tables) (k : Keyword) (q : List ℕ) (t : Tag) : Type 0 where
  pub fits : fits_keyword k q ≡ true
  pub is : tag_of names k q ≡ Ok t

user_of : (names : Tables) (q : List ℕ) → 0 < length q → tag_of names User q ≡ result_map_both tag.User (λ fault. fault) (numbered names.users q)
user_of names q h2 = search arith

group_of : (names : Tables) (q : List ℕ) → 0 < length q → tag_of names Group q ≡ result_map_both tag.Group (λ fault. fault) (numbered names.groups q)
group_of names q h2 = search arith

pub tagged_from : (names : Tables) (t : Tag) (k : Keyword) (q : List ℕ) → Says names t k q → Tagged names k q t
tagged_from names (tag.User id) k q says = rw says.0 (record { fits = says.1.bytes; is = user_of names q says.1.some ∙ ap (result_map_both tag.User (λ fault. fault)) (numbered_from names.users q id says.1) })
tagged_from names (tag.Group id) k q says = rw says.0 (record { fits = says.1.bytes; is = group_of names q says.1.some ∙ ap (result_map_both tag.Group (λ fault. fault)) (numbered_from names.groups q id says.1) })
tagged_from names _ k q says = rw (says.0, says.1) (record { fits = refl; is = refl })

-- bytes that neither end a field nor are trimmed
abbrev is_kept : ℕ → Bool
is_kept b = not (is_white b) && not (eqb b colon)

name_kept : (b : ℕ) → is_name_byte b ≡ true → is_kept b ≡ true
name_kept b h = grind (arith, nat_tests)

permission_kept : (b : ℕ) → is_permission_byte b ≡ true → is_kept b ≡ true
permission_kept b h = grind (arith, nat_tests)

kept_white : (b : ℕ) → is_kept b ≡ true → not (is_white b) ≡ true
kept_white b h = (and_parts (not (is_white b)) (not (eqb b colon)) h).0

kept_colon : (b : ℕ) → is_kept b ≡ true → not (eqb b colon) ≡ true
kept_colon b h = (and_parts (not (is_white b)) (not (eqb b colon)) h).1

white_colon : (b : ℕ) → is_white b ≡ true → not (eqb b colon) ≡ true
white_colon b h = grind (arith, nat_tests)

qualifier_kept : (names : Tables) (t : Tag) (k : Keyword) (q : List ℕ) → Says names t k q → list_all is_kept q ≡ true
qualifier_kept names t k q h4 = search (list_all_wider, name_kept, arith)

record WordFacts (k : Keyword) (word : List ℕ) : Type 0 where
  kept : list_all is_kept word ≡ true
  known : keyword_of word ≡ Some k
  single : is_single k ≡ true → single_keyword_of word ≡ Some k
  no_default : is_default word ≡ false

word_facts : (k : Keyword) (whole : Bool) → WordFacts k (cond whole (word_of k) (letter_of k))
word_facts k whole = search arith

-- a field with its white space: not cut, and trimmed to what it is
uncut : (inner text : List ℕ) → IsSpaced inner text → list_all is_kept inner ≡ true → lacks (λ b. eqb b colon) text ≡ true
uncut inner text spaced kept = search (list_all-append, and_from, list_all_wider, white_colon, kept_colon, arith)

trims : (inner text : List ℕ) → IsSpaced inner text → list_all is_kept inner ≡ true → trimmed text ≡ inner
trims inner text spaced kept = search (trimmed_spaced, list_all_wider, kept_white, arith)

long_fields : (word q p item : List ℕ) → IsLong word q p item → list_all is_kept word ≡ true → list_all is_kept q ≡ true → list_all is_kept p ≡ true → fields_of item ≡ word ∷ q ∷ p ∷ []
long_fields word q p item long of_word of_q of_p =
    let cut : parts colon item ≡ long.first ∷ long.second ∷ long.third ∷ [] =
    ap (parts colon) long.is
    ∙ split_at_byte (λ b. eqb b colon) long.first colon (long.second ++ colon ∷ long.third) (uncut word long.first long.of_word of_word) refl
    ∙ ap (λ rest. long.first ∷ rest) (split_at_byte (λ b. eqb b colon) long.second colon long.third (uncut q long.second long.of_qualifier of_q) refl)
    ∙ ap (λ rest. long.first ∷ long.second ∷ rest) (split_lacking (λ b. eqb b colon) long.third (uncut p long.third long.of_permissions of_p)) in
    ap (map trimmed) cut ∙ (λ i. trims word long.first long.of_word of_word i ∷ trims q long.second long.of_qualifier of_q i ∷ trims p long.third long.of_permissions of_p i ∷ [])

short_fields : (word p item : List ℕ) → IsShort word p item → list_all is_kept word ≡ true → list_all is_kept p ≡ true → fields_of item ≡ word ∷ p ∷ []
short_fields word p item short of_word of_p =
    let cut : parts colon item ≡ short.first ∷ short.last ∷ [] =
    ap (parts colon) short.is
    ∙ split_at_byte (λ b. eqb b colon) short.first colon short.last (uncut word short.first short.of_word of_word) refl
    ∙ ap (λ rest. short.first ∷ rest) (split_lacking (λ b. eqb b colon) short.last (uncut p short.last short.of_permissions of_p)) in
    ap (map trimmed) cut ∙ (λ i. trims word short.first short.of_word of_word i ∷ trims p short.last short.of_permissions of_p i ∷ [])

not_blank : (first rest item : List ℕ) → item ≡ first ++ colon ∷ rest → list_all is_white item ≡ false
not_blank first rest item is = ap (list_all is_white) is ∙ list_all-append is_white first (colon ∷ rest) ∙ and_right (list_all is_white first) _ refl

-- the entry of a keyword, a qualifier and permissions
entry_from : (names : Tables) (t : Tag) (k : Keyword) (q p : List ℕ) (reads writes executes : Bool) → Says names t k q → Grants p reads writes executes
    → entry_reading names (Some k) q p ≡ Ok (entry_of t (digit_of reads writes executes))
entry_from names t k q p reads writes executes says granted = search (tagged_from names t k q says, test_from_grants p reads writes executes granted, digit_from_grants p reads writes executes granted, arith)

single_empty : (names : Tables) (t : Tag) (k : Keyword) (q : List ℕ) → is_single k ≡ true → Says names t k q → q ≡ []
single_empty names t k q h4 h5 = search arith

-- an item that is written as an entry: its first field is no word of a default list, and what is read of its fields
record IsRead (names : Tables) (e : Entry) (bytes : List ℕ) : Type 0 where
  word : List ℕ
  more : List (List ℕ)
  no_blank : list_all is_white bytes ≡ false
  fields : fields_of bytes ≡ word ∷ more
  no_default : is_default word ≡ false
  read : fields_reading names (word ∷ more) ≡ Ok e

laid_out_read : (long : Bool) (names : Tables) (k : Keyword) (whole : Bool) (q p : List ℕ) (t : Tag) (e : Entry) (bytes : List ℕ)
    → IsLaidOut long k (cond whole (word_of k) (letter_of k)) q p bytes → Says names t k q → list_all is_kept p ≡ true → entry_reading names (Some k) q p ≡ Ok e → IsRead names e bytes
laid_out_read true names k whole q p t e bytes long says kept is =
    let word = cond whole (word_of k) (letter_of k) in
    let facts = word_facts k whole in
    record {
      word = word;
      more = q ∷ p ∷ [];
      no_blank = not_blank long.first (long.second ++ colon ∷ long.third) bytes long.is;
      fields = long_fields word q p bytes long facts.kept (qualifier_kept names t k q says) kept;
      no_default = facts.no_default;
      read = ap (λ found. entry_reading names found q p) facts.known ∙ is;
    }
laid_out_read false names k whole q p t e bytes short says kept is =
    let word = cond whole (word_of k) (letter_of k) in
    let facts = word_facts k whole in
    let empty = single_empty names t k q short.0 says in
    record {
      word = word;
      more = p ∷ [];
      no_blank = not_blank short.1.first short.1.last bytes short.1.is;
      fields = short_fields word p bytes short.1 facts.kept kept;
      no_default = facts.no_default;
      read = ap (λ found. entry_reading names found [] p) (facts.single short.0) ∙ subst (λ q. entry_reading names (Some k) q p ≡ Ok e) empty is;
    }

fields_if_written : (names : Tables) (e : Entry) (bytes : List ℕ) → IsItemOf names e bytes → IsRead names e bytes
fields_if_written names e bytes it =
    let made = entry_from names it.whom it.keyword it.qualifier it.permissions it.reads it.writes it.executes it.says it.grants in
    laid_out_read it.long names it.keyword it.whole_word it.qualifier it.permissions it.whom e bytes it.laid_out it.says
    (list_all_wider is_permission_byte is_kept permission_kept it.permissions it.grants.known)
    (made ∙ ap Ok (sym it.is))

record DefaultWord (word : List ℕ) : Type 0 where
  kept : list_all is_kept word ≡ true
  known : is_default word ≡ true

default_word : (whole : Bool) → DefaultWord (cond whole (codes "default") (codes "d"))
default_word whole = search arith

said_by_fields : (names : Tables) (bytes word : List ℕ) (more : List (List ℕ)) (marked : Bool) (r : Result Entry ItemFault) → list_all is_white bytes ≡ false → fields_of bytes ≡ word ∷ more → is_default word ≡ marked
    → reading names bytes ≡ result_map_both Some (λ fault. fault) (cond marked (result_map_both (sided_entry Default) (λ fault. fault) (fields_reading names more))
    (result_map_both (sided_entry Access) (λ fault. fault) (fields_reading names (word ∷ more))))
said_by_fields names bytes word more marked r no_blank fields default = rw (no_blank, fields, default) refl

pub read_if_written : (names : Tables) (side : Side) (e : Entry) (bytes : List ℕ) → SaysItem names side e bytes → reading names bytes ≡ Ok (Some (sided_entry side e))
read_if_written names Access e bytes it = search (fields_if_written names e bytes it, said_by_fields, arith)
read_if_written names Default e bytes it =
    let is = fields_if_written names e it.rest it.of_entry in
    let word = cond it.whole_word (codes "default") (codes "d") in
    let facts = default_word it.whole_word in
    let fields : fields_of bytes ≡ word ∷ fields_of it.rest =
    ap fields_of it.is
    ∙ ap (map trimmed) (split_at_byte (λ b. eqb b colon) it.first colon it.rest (uncut word it.first it.of_word facts.kept) refl)
    ∙ ap (λ w. w ∷ fields_of it.rest) (trims word it.first it.of_word facts.kept) in
    said_by_fields names bytes word (fields_of it.rest) true (Ok e) (not_blank it.first it.rest bytes it.is) fields facts.known
    ∙ ap (λ r. result_map_both Some (λ fault. fault) (result_map_both (sided_entry Default) (λ fault. fault) r)) (ap (fields_reading names) is.fields ∙ is.read)

mapped : (r : Result Tag ItemFault) (f : Tag → Entry) (e : Entry) → result_map_both f (λ fault. fault) r ≡ Ok e → (t : Tag) × (r ≡ Ok t) × (f t ≡ e)
mapped r f e h3 = search arith

record EntryParts (names : Tables) (found : Option Keyword) (q p : List ℕ) (e : Entry) : Type 0 where
  keyword : Keyword
  whom : Tag
  is_keyword : found ≡ Some keyword
  fits : fits_keyword keyword q ≡ true
  permissions : are_permissions p ≡ true
  tagged : tag_of names keyword q ≡ Ok whom
  is : e ≡ entry_of whom (permission_digit p)

entry_parts : (names : Tables) (found : Option Keyword) (q p : List ℕ) (e : Entry) → entry_reading names found q p ≡ Ok e → EntryParts names found q p e
entry_parts names None q p e h = cc
entry_parts names (Some k) q p e h = search (cases_Bool, and_parts, mapped, arith)

single_found : (a b : Bool) (k : Keyword) → cond a (Some Mask) (cond b (Some Other) None) ≡ Some k → is_single k ≡ true
single_found a b k h3 = search arith

written_by_parts : (names : Tables) (e : Entry) (bytes : List ℕ) (cut : List (List ℕ)) → join_with_byte colon cut ≡ bytes → fields_reading names (map trimmed cut) ≡ Ok e → IsItemOf names e bytes
written_by_parts names e bytes [] joined h = cc
written_by_parts names e bytes (a ∷ []) joined h = cc
written_by_parts names e bytes (a ∷ b ∷ []) joined h =
    let word = trimmed a in
    let p = trimmed b in
    let it = entry_parts names (single_keyword_of word) [] p e h in
    let chosen = word_chosen (Mask ∷ Other ∷ []) word it.keyword it.is_keyword in
    record {
      whom = it.whom;
      keyword = it.keyword;
      whole_word = chosen.0;
      long = false;
      qualifier = [];
      permissions = p;
      reads = stands_in letter_r p;
      writes = stands_in letter_w p;
      executes = stands_in letter_x p;
      says = says_from names it.keyword [] it.whom it.fits it.tagged;
      grants = grants_from_test p it.permissions;
      laid_out = (single_found _ _ it.keyword it.is_keyword, record { first = a; last = b; of_word = subst (λ w. IsSpaced w a) chosen.1 (spaced_by_trimming a); of_permissions = spaced_by_trimming b; is = sym joined });
      is = it.is;
    }
written_by_parts names e bytes (a ∷ b ∷ c ∷ []) joined h =
    let word = trimmed a in
    let q = trimmed b in
    let p = trimmed c in
    let it = entry_parts names (keyword_of word) q p e h in
    let chosen = word_chosen (User ∷ Group ∷ Mask ∷ Other ∷ []) word it.keyword it.is_keyword in
    record {
      whom = it.whom;
      keyword = it.keyword;
      whole_word = chosen.0;
      long = true;
      qualifier = q;
      permissions = p;
      reads = stands_in letter_r p;
      writes = stands_in letter_w p;
      executes = stands_in letter_x p;
      says = says_from names it.keyword q it.whom it.fits it.tagged;
      grants = grants_from_test p it.permissions;
      laid_out = record { first = a; second = b; third = c; of_word = subst (λ w. IsSpaced w a) chosen.1 (spaced_by_trimming a); of_qualifier = spaced_by_trimming b; of_permissions = spaced_by_trimming c; is = sym joined };
      is = it.is;
    }
written_by_parts names e bytes (a ∷ b ∷ c ∷ d ∷ more) joined h = cc

said_read : (blank : Bool) (r : Result SidedEntry ItemFault) (s : SidedEntry) → cond blank (Ok None) (result_map_both Some (λ fault. fault) r) ≡ Ok (Some s) → r ≡ Ok s
said_read blank r s h3 = search arith

-- an entry that was read for one side
sided_parts : (s side : Side) (r : Result Entry ItemFault) (e : Entry) → result_map_both (sided_entry s) (λ fault. fault) r ≡ Ok (sided_entry side e) → (s ≡ side) × (r ≡ Ok e)
sided_parts s side r e h4 = search arith

marked_by_parts : (names : Tables) (e : Entry) (a bytes : List ℕ) (cut : List (List ℕ)) → is_default (trimmed a) ≡ true → join_with_byte colon (a ∷ cut) ≡ bytes → fields_reading names (map trimmed cut) ≡ Ok e → IsDefaultItemOf names e bytes
marked_by_parts names e a bytes cut h5 h6 h7 = search (or_cases, bytes_eq-Decides, spaced_by_trimming, written_by_parts, arith)

says_by_parts : (names : Tables) (side : Side) (e : Entry) (bytes : List ℕ) (cut : List (List ℕ)) → join_with_byte colon cut ≡ bytes → sided_reading names (map trimmed cut) ≡ Ok (sided_entry side e) → SaysItem names side e bytes
says_by_parts names side e bytes [] joined h = cc
says_by_parts names side e bytes (a ∷ cut) joined h =
    let marked : Result SidedEntry ItemFault = result_map_both (sided_entry Default) (λ fault. fault) (fields_reading names (map trimmed cut)) in
    let plain : Result SidedEntry ItemFault = result_map_both (sided_entry Access) (λ fault. fault) (fields_reading names (map trimmed (a ∷ cut))) in
    elim (cases_Bool (is_default (trimmed a))) [
      | inl default ↦
          let both = sided_parts Default side (fields_reading names (map trimmed cut)) e (sym (ap (λ test. cond test marked plain) default) ∙ h) in
          subst (λ s. SaysItem names s e bytes) both.0 (marked_by_parts names e a bytes cut default joined both.1)
      | inr other ↦
          let both = sided_parts Access side (fields_reading names (map trimmed (a ∷ cut))) e (sym (ap (λ test. cond test marked plain) other) ∙ h) in
          subst (λ s. SaysItem names s e bytes) both.0 (written_by_parts names e bytes (a ∷ cut) joined both.1)
    ]

pub written_if_read : (names : Tables) (side : Side) (e : Entry) (bytes : List ℕ) → reading names bytes ≡ Ok (Some (sided_entry side e)) → SaysItem names side e bytes
written_if_read names side e bytes h = search (says_by_parts, join_with_byte-slice_split, said_read, arith)
