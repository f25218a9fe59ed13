-- What is granted by the letters of a field, and the entry that it makes.
use Rattle.acl_text.proofs.Vocabulary.{◌≡◌, ℕ, ◌+◌, ◌≤◌, Bool, true, false, cond, eqb, List, [], ◌∷◌, ◌++◌, Some, Err, refl, sym, ap, ◌∙◌, arith, is_ascii_digit, list_all, result_map_both, and_parts, and_from, or_cases, eqb-true, eq-eqb}
use Rattle.acl_text.proofs.Vocabulary.{false_from_ne_true, nat_tests, list_all-append, sum_by-append, count_by-cons, entry_of, digit_of, Syntax, Keyword, are_permissions, entry_reading, fits_keyword, hyphen, is_permission_byte, letter_r, letter_w}
use Rattle.acl_text.proofs.Vocabulary.{letter_x, tag_of, times_in, IsReadOf, Grants, is_name_byte, Tables}
use Rattle.acl_text.specs.declared.item.Letters.{Letters}
use Rattle.acl_text.proofs.CleanText.{list_all_wider}
use Rattle.acl_text.proofs.ItemGrammar.{few_if_once, grants_from_test, once_if_there, test_from_grants, there_if_once}

-- ---- the letters so far, by what they grant

granted_from : (letters : Letters) (front : List ℕ) → IsReadOf letters front → Grants front letters.reads letters.writes letters.executes
granted_from letters front is = search (grants_from_test, arith)

read_from : (letters : Letters) (front : List ℕ) → Grants front letters.reads letters.writes letters.executes → letters.hyphens ≡ times_in hyphen front → IsReadOf letters front
read_from letters front granted hyphens = record {
  known = test_from_grants front letters.reads letters.writes letters.executes granted;
  reads = sym (there_if_once letter_r front letters.reads granted.r);
  writes = sym (there_if_once letter_w front letters.writes granted.w);
  executes = sym (there_if_once letter_x front letters.executes granted.x);
  hyphens = hyphens;
}

-- ---- one byte more

times_more : (byte : ℕ) (front : List ℕ) (last : ℕ) → times_in byte (front ++ last ∷ []) ≡ times_in byte front + cond (eqb last byte) 1 0
times_more byte front last = search (sum_by-append, count_by-cons, arith)

known_more : (front : List ℕ) (last : ℕ) → list_all is_permission_byte front ≡ true → is_permission_byte last ≡ true → list_all is_permission_byte (front ++ last ∷ []) ≡ true
known_more front last known is = list_all-append is_permission_byte front (last ∷ []) ∙ and_from (list_all is_permission_byte front) _ known (and_from (is_permission_byte last) true is refl)

-- as many of each letter as the letters with this one say
taken : (letters next : Letters) (front : List ℕ) (byte : ℕ) → IsReadOf letters front → is_permission_byte byte ≡ true
    → cond letters.reads 1 0 + cond (eqb byte letter_r) 1 0 ≡ cond next.reads 1 0
    → cond letters.writes 1 0 + cond (eqb byte letter_w) 1 0 ≡ cond next.writes 1 0
    → cond letters.executes 1 0 + cond (eqb byte letter_x) 1 0 ≡ cond next.executes 1 0
    → letters.hyphens + cond (eqb byte hyphen) 1 0 ≡ next.hyphens → next.hyphens ≤ 3
    → IsReadOf next (front ++ byte ∷ [])
taken letters next front byte is known r w x hyphens few =
    let granted = granted_from letters front is in
    let more_r = times_more letter_r front byte in
    let more_w = times_more letter_w front byte in
    let more_x = times_more letter_x front byte in
    let more_hyphens = times_more hyphen front byte in
    let same : next.hyphens ≡ times_in hyphen (front ++ byte ∷ []) = omega (arith, more_hyphens, hyphens, is.hyphens) in
    read_from next (front ++ byte ∷ []) (record {
      known = known_more front byte granted.known known;
      r = more_r ∙ ap (λ n. n + cond (eqb byte letter_r) 1 0) granted.r ∙ r;
      w = more_w ∙ ap (λ n. n + cond (eqb byte letter_w) 1 0) granted.w ∙ w;
      x = more_x ∙ ap (λ n. n + cond (eqb byte letter_x) 1 0) granted.x ∙ x;
      hyphens = omega (arith, same, few);
    }) same

still : (b : Bool) → ◌≡◌ {A = ℕ} (cond b 1 0 + 0) (cond b 1 0)
still b = search arith

few_hyphens : (letters : Letters) (front : List ℕ) → IsReadOf letters front → letters.hyphens ≤ 3
few_hyphens letters front is = let few = (grants_from_test front is.known).hyphens in omega (arith, few, is.hyphens)

pub takes_r : (letters : Letters) (front : List ℕ) → IsReadOf letters front → letters.reads ≡ false → IsReadOf (record letters { reads = true }) (front ++ letter_r ∷ [])
takes_r letters front is unread =
    taken letters (record letters { reads = true }) front letter_r is refl (ap (λ b. cond b 1 0 + 1) unread) (still letters.writes) (still letters.executes) (omega arith) (few_hyphens letters front is)

pub takes_w : (letters : Letters) (front : List ℕ) → IsReadOf letters front → letters.writes ≡ false → IsReadOf (record letters { writes = true }) (front ++ letter_w ∷ [])
takes_w letters front is unread =
    taken letters (record letters { writes = true }) front letter_w is refl (still letters.reads) (ap (λ b. cond b 1 0 + 1) unread) (still letters.executes) (omega arith) (few_hyphens letters front is)

pub takes_x : (letters : Letters) (front : List ℕ) → IsReadOf letters front → letters.executes ≡ false → IsReadOf (record letters { executes = true }) (front ++ letter_x ∷ [])
takes_x letters front is unread =
    taken letters (record letters { executes = true }) front letter_x is refl (still letters.reads) (still letters.writes) (ap (λ b. cond b 1 0 + 1) unread) (omega arith) (few_hyphens letters front is)

-- a letter that is there comes again
twice : (letter : ℕ) (front : List ℕ) (byte : ℕ) (there again : Bool) → byte ≡ letter → there ≡ true → times_in letter front ≡ cond there 1 0 → times_in letter (front ++ byte ∷ []) ≡ cond again 1 0 → ⊥
twice letter front byte there again here is before after = search (times_more letter front byte, eq-eqb byte letter here, few_if_once (times_in letter (front ++ byte ∷ [])) again after, arith)

-- a byte that is no letter, or a letter or a hyphen too many
pub spoils : (letters : Letters) (front : List ℕ) (byte : ℕ) → IsReadOf letters front
    → (byte ≡ letter_r → letters.reads ≡ true) → (byte ≡ letter_w → letters.writes ≡ true) → (byte ≡ letter_x → letters.executes ≡ true) → (byte ≡ hyphen → 3 ≤ letters.hyphens)
    → are_permissions (front ++ byte ∷ []) ≡ false
spoils letters front byte is r w x h = search (false_from_ne_true, granted_from, grants_from_test, and_parts, list_all-append, or_cases, eqb-true, twice, times_more, arith)

-- what spoils the front spoils the whole
fine_front : (front rest : List ℕ) → are_permissions (front ++ rest) ≡ true → are_permissions front ≡ true
fine_front front rest all = search (grants_from_test, and_parts, list_all-append, sum_by-append, once_if_there, few_if_once, test_from_grants, arith)

pub spoilt_front : (front rest : List ℕ) → are_permissions front ≡ false → are_permissions (front ++ rest) ≡ false
spoilt_front front rest spoilt = false_from_ne_true _ (λ all. let fine = fine_front front rest all in cc)

-- ---- the entry of permissions that were read, and of whom it is about

pub entry_by : (names : Tables) (keyword : Keyword) (qualifier field : List ℕ) (letters : Letters) → IsReadOf letters field
    → entry_reading names (Some keyword) qualifier field
    ≡ result_map_both (λ tag. entry_of tag (digit_of letters.reads letters.writes letters.executes)) (λ fault. fault) (cond (fits_keyword keyword qualifier) (tag_of names keyword qualifier) (Err Syntax))
entry_by names keyword qualifier field letters is = search arith

-- digits may stand in a name
pub digits_name : (qualifier : List ℕ) → list_all is_ascii_digit qualifier ≡ true → list_all is_name_byte qualifier ≡ true
digits_name qualifier digits = list_all_wider is_ascii_digit is_name_byte (λ b digit. grind (arith, nat_tests)) qualifier digits
