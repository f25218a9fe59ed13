-- Who holds a suite first beside a transaction.
use Rattle.rep_core.proofs.Vocabulary.{◌≡◌, ℕ, ◌+◌, ◌≤◌, ◌<◌, true, false, cond, List, [], ◌∷◌, Option, Some, None, refl, sym, ap, ◌∙◌, arith, Less, Equal, ◌==◌, ◌&&◌, find, option_map, AllByRecursion, nat_cmp, is_lt, keys_of, nat_tests, IsOrdered}
use Rattle.rep_core.proofs.Vocabulary.{first_from, Holder, holder_cmp, is_other, told_other, other_in, of_first}
use Rattle.std.specs.List.Sorted.{IsStrictlySortedBy}

no_more : (a b : ℕ) → nat_cmp a b ≡ Less → a ≤ b
no_more a b is = grind (arith, nat_tests)

not_less_itself : (s z : ℕ) → s ≡ z → nat_cmp s z ≡ Equal
not_less_itself s z is = grind (arith, nat_tests)

-- ---- the first other one on a suite

no_later_suite : (a b : ℕ × ℕ) → holder_cmp a b ≡ Less → a.0 ≤ b.0
no_later_suite a b is = search arith

not_itself : (a b : ℕ × ℕ) → holder_cmp a b ≡ Less → a.0 ≡ b.0 → a.1 ≡ b.1 → ⊥
not_itself a b is same same' = search arith

past_is_not_other : (t s : ℕ) (d : Holder) → s < d.0.0 → is_other t s d ≡ false
past_is_not_other t s d is = grind (arith, nat_tests)

own_holder : (t s : ℕ) (d : Holder) → is_other t s d ≡ false → (d.0.0 == s) ≡ true → (d.0.0 ≡ s) × (d.0.1 ≡ t)
own_holder t s d a b = (grind (arith, nat_tests), grind (arith, nat_tests))

past_from : (a b s : ℕ) → a ≤ b → a ≡ s → (b == s) ≡ false → s < b
past_from a b s le is apart = grind (arith, nat_tests)

module _ (t s : ℕ) where
  abbrev told : List Holder → Option ℕ
  told hs = option_map (λ (h : Holder). h.0.1) (find (is_other t s) hs)

  none_past : (d : Holder) (hs : List Holder) → s < d.0.0 → AllByRecursion (λ b. holder_cmp d.0 b ≡ Less) (keys_of hs) → find (is_other t s) hs ≡ None
  none_past d [] past all = refl
  none_past d (h ∷ hs) past all = search (no_later_suite, past_is_not_other, none_past d hs past, arith)

  behind_own : (d h : Holder) (hs : List Holder) → d.0.0 ≡ s → d.0.1 ≡ t → holder_cmp d.0 h.0 ≡ Less → AllByRecursion (λ b. holder_cmp h.0 b ≡ Less) (keys_of hs) → told (h ∷ hs) ≡ told_other t s h
  behind_own d h hs on own less all = search (own_holder, not_itself, none_past, past_from, no_later_suite, arith)

  -- below the first on the suite
  is_below : (d : Holder) (u : ℕ) → is_lt (holder_cmp d.0 (s, 0)) ≡ true → (is_other t s d ≡ false) × (is_lt (holder_cmp d.0 (s, u)) ≡ true)
  is_below d u is = search arith

  -- the own one stands below the next
  own_below : (d : Holder) → d.0.0 ≡ s → d.0.1 ≡ t → is_lt (holder_cmp d.0 (s, t + 1)) ≡ true
  own_below d on own = search arith

  -- what stands behind the own one does not stand below the next
  next_above : (d h : Holder) → d.0.0 ≡ s → d.0.1 ≡ t → holder_cmp d.0 h.0 ≡ Less → is_lt (holder_cmp h.0 (s, t + 1)) ≡ false
  next_above d h on own is = search arith

  past_own : (d : Holder) → is_lt (holder_cmp d.0 (s, 0)) ≡ false → (d.0.0 == s) ≡ false → s < d.0.0
  past_own d is apart = search arith

  -- the first behind the own one
  first_behind : (d : Holder) (hs : List Holder) → d.0.0 ≡ s → d.0.1 ≡ t → AllByRecursion (λ b. holder_cmp d.0 b ≡ Less) (keys_of hs) → IsOrdered holder_cmp hs → told hs ≡ other_in t s (first_from holder_cmp (s, t + 1) hs)
  unfolding IsStrictlySortedBy
  first_behind d [] on own all ordered = refl
  first_behind d (h ∷ hs) on own all ordered = search (behind_own, next_above, arith)

  pub first_of_others : (hs : List Holder) → IsOrdered holder_cmp hs → told hs ≡ of_first t s (first_from holder_cmp (s, 0) hs) (first_from holder_cmp (s, t + 1) hs)
  unfolding IsStrictlySortedBy
  first_of_others [] ordered = refl
  first_of_others (d ∷ hs) ordered =
      elim (is_lt (holder_cmp d.0 (s, 0))) as (λ b. is_lt (holder_cmp d.0 (s, 0)) ≡ b → told (d ∷ hs) ≡ of_first t s (cond b (first_from holder_cmp (s, 0) hs) (Some d)) (first_from holder_cmp (s, t + 1) (d ∷ hs))) [
        | true ↦ λ below.
            let both = is_below d (t + 1) below in
            ap (λ b. option_map (λ (h : Holder). h.0.1) (cond b (Some d) (find (is_other t s) hs))) both.0
            ∙ first_of_others hs ordered.1
            ∙ sym (ap (λ b. of_first t s (first_from holder_cmp (s, 0) hs) (cond b (first_from holder_cmp (s, t + 1) hs) (Some d))) both.1)
        | false ↦ λ above. elim (is_other t s d) as (λ b. is_other t s d ≡ b → option_map (λ (h : Holder). h.0.1) (cond b (Some d) (find (is_other t s) hs)) ≡ of_first t s (Some d) (first_from holder_cmp (s, t + 1) (d ∷ hs))) [
          | true ↦ λ other. sym (ap (λ b. cond b (other_in t s (first_from holder_cmp (s, t + 1) (d ∷ hs))) (told_other t s d)) (other_not_own d other) ∙ ap (λ b. cond b (Some d.0.1) None) other)
          | false ↦ λ no. elim (d.0.0 == s) as (λ b. (d.0.0 == s) ≡ b → told hs ≡ of_first t s (Some d) (first_from holder_cmp (s, t + 1) (d ∷ hs))) [
            | true ↦ λ at.
                let it = own_holder t s d no at in
                first_behind d hs it.0 it.1 ordered.0 ordered.1
                ∙ sym (ap (λ b. cond b (other_in t s (first_from holder_cmp (s, t + 1) (d ∷ hs))) (told_other t s d)) (own_test d it.0 it.1)
                ∙ ap (λ b. other_in t s (cond b (first_from holder_cmp (s, t + 1) hs) (Some d))) (own_below d it.0 it.1))
            | false ↦ λ apart.
                let none = none_past d hs (past_own d above apart) ordered.0 in
                ap (option_map (λ (h : Holder). h.0.1)) none
                ∙ sym (ap (λ b. cond b (other_in t s (first_from holder_cmp (s, t + 1) (d ∷ hs))) (told_other t s d)) (ap (λ b. b && (d.0.1 == t)) apart)
                ∙ ap (λ b. cond b (Some d.0.1) None) no)
          ] refl
        ] refl
      ] refl
    where
      other_not_own : (d : Holder) → is_other t s d ≡ true → ((d.0.0 == s) && (d.0.1 == t)) ≡ false
      other_not_own d other = grind (arith, nat_tests)

      own_test : (d : Holder) → d.0.0 ≡ s → d.0.1 ≡ t → ((d.0.0 == s) && (d.0.1 == t)) ≡ true
      own_test d on own = grind (arith, nat_tests)
