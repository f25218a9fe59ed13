-- Texts cut at their slashes: which are paths.
use Rattle.file_ops.proofs.Vocabulary.{◌≡◌, ◌≢◌, ℕ, ◌<◌, ◌≤◌, Bool, true, false, not, ◌&&◌, cond, nat_eq, List, [], ◌∷◌, ◌++◌, length, take, drop, Some, None, refl, sym, ap, ◌∙◌, arith, nat_le, codes, list_all, slice_split, onto_first, false≢true}
use Rattle.file_ops.proofs.Vocabulary.{not_from_false, not-true, false_from_ne_true, eqb-true, list_all-append, length-slice_split, max_path_names, is_slash, is_name, some_names, names_between, names_of}
use Rattle.std.specs.Cmp.Lexicographic.{pointwise}
use Rattle.std.proofs.lemmas.Bool.Decides.{nat_tests}
use Rattle.std.specs.Str.{bytes_eq}
use Rattle.std.specs.Cmp.Derive.{both_true}
use Rattle.std.proofs.Math.Bool.{and-true}
use Rattle.std.proofs.lemmas.List.Sums.{AllPass-from_list_all, list_all-from_AllPass}
use Rattle.std.proofs.lemmas.Slice.Eq.{bytes_eq-Decides}
use Rattle.suite_content.specs.Limits.{max_name}
use Rattle.suite_content.specs.Names.{IsName, is_name_byte}

pub too_many : (parts : List (List ℕ)) → max_path_names < length parts → some_names parts ≡ None
too_many parts long = grind (arith, nat_tests)

pub all_names : (parts : List (List ℕ)) → 1 ≤ length parts → length parts ≤ max_path_names → list_all is_name parts ≡ true → some_names parts ≡ Some parts
all_names parts some few names = grind (arith, nat_tests)

pub not_all : (parts : List (List ℕ)) → list_all is_name parts ≡ false → some_names parts ≡ None
not_all parts bad = grind (arith, nat_tests)

-- a test of two parts
both : (a b : Bool) → (a && b) ≡ true → (a ≡ true) × (b ≡ true)
both a b h2 = search arith

differs : (bytes other : List ℕ) → bytes ≢ other → not (bytes_eq bytes other) ≡ true
differs bytes other apart = not_from_false _ (false_from_ne_true _ (λ e. apart ((bytes_eq-Decides bytes other).0 e)))

apart : (bytes other : List ℕ) → not (bytes_eq bytes other) ≡ true → bytes ≢ other
apart bytes other test same = false≢true (sym (not-true _ test) ∙ (bytes_eq-Decides bytes other).1 same)

pub test_name : (bytes : List ℕ) → IsName bytes → is_name bytes ≡ true
test_name bytes name = search (nat_tests, list_all-from_AllPass, differs, arith)

at_least_one : (bytes : List ℕ) → nat_le 1 (length bytes) ≡ true → 1 ≤ length bytes
at_least_one bytes test = grind (arith, nat_tests)

at_most_64 : (bytes : List ℕ) → nat_le (length bytes) max_name ≡ true → length bytes ≤ max_name
at_most_64 bytes test = grind (arith, nat_tests)

pub name_from_test : (bytes : List ℕ) → is_name bytes ≡ true → IsName bytes
name_from_test bytes test =
    let long = nat_le 1 (length bytes) in
    let short = nat_le (length bytes) max_name in
    let portable = list_all is_name_byte bytes in
    let not_dot = not (bytes_eq bytes (codes ".")) in
    let p = both (long && short && portable && not_dot) (not (bytes_eq bytes (codes ".."))) test in
    let q = both (long && short && portable) not_dot p.0 in
    let r = both (long && short) portable q.0 in
    let s = both long short r.0 in
    record {
      nonempty = at_least_one bytes s.0;
      short = at_most_64 bytes s.1;
      portable = AllPass-from_list_all is_name_byte bytes r.1;
      not_dot = apart bytes (codes ".") q.1;
      not_dot_dot = apart bytes (codes "..") p.1;
    }

-- what is no name fails the test
pub no_name : (bytes : List ℕ) → (IsName bytes → ⊥) → is_name bytes ≡ false
no_name bytes bad = false_from_ne_true _ (λ test. bad (name_from_test bytes test))

-- one more name
pub one_more : (parts : List (List ℕ)) (part : List ℕ) → list_all is_name parts ≡ true → is_name part ≡ true → list_all is_name (parts ++ part ∷ []) ≡ true
one_more parts part names name = list_all-append is_name parts (part ∷ []) ∙ both_true names (both_true name refl)

pub some_part : (text : List ℕ) → 1 ≤ length (slice_split is_slash text)
some_part text = omega (arith, length-slice_split is_slash text)

-- a text whose first byte is no slash has a first part
front : (b : Bool) (byte : ℕ) (parts : List (List ℕ)) → b ≡ false → names_between (cond b ([] ∷ parts) (onto_first byte parts)) ≡ None
front b byte parts h3 = search arith

-- what stands after the first slash is no empty part alone, where a byte stands there
behind : (b : Bool) (byte : ℕ) (parts : List (List ℕ)) → 1 ≤ length parts → let behind' = cond b ([] ∷ parts) (onto_first byte parts) in names_between ([] ∷ behind') ≡ some_names behind'
behind b byte parts h3 = search arith

pub other_first : (byte : ℕ) (rest : List ℕ) → is_slash byte ≡ false → names_of (byte ∷ rest) ≡ None
other_first byte rest other = front (is_slash byte) byte (slice_split is_slash rest) other

pub after_slash : (byte : ℕ) (rest : List ℕ) → names_of (47 ∷ byte ∷ rest) ≡ some_names (slice_split is_slash (byte ∷ rest))
after_slash byte rest = behind (is_slash byte) byte (slice_split is_slash rest) (some_part rest)

pub with_slash : (text : List ℕ) → pointwise nat_eq (take 1 text) (47 ∷ []) ≡ true → text ≡ 47 ∷ drop 1 text
with_slash [] same = absurd (false≢true same)
with_slash (byte ∷ rest) same = ap (λ b. b ∷ rest) (eqb-true byte 47 (sym (and-true (is_slash byte)) ∙ same))

-- a path of more than a slash
pub longer_path : (text rest : List ℕ) → pointwise nat_eq (take 1 text) (47 ∷ []) ≡ true → rest ≡ drop 1 text → length rest ≢ 0 → names_of text ≡ some_names (slice_split is_slash rest)
longer_path text rest same follows long = ap names_of (with_slash text same) ∙ ap (λ r. names_of (47 ∷ r)) (sym follows) ∙ behind_slash rest long
  where
    behind_slash : (rest : List ℕ) → length rest ≢ 0 → names_of (47 ∷ rest) ≡ some_names (slice_split is_slash rest)
    behind_slash [] long = absurd (long refl)
    behind_slash (byte ∷ rest) long = after_slash byte rest
