-- What a walk from one pair to the next sees of a map.
use Rattle.rep_core.proofs.Vocabulary.{◌≡◌, ℕ, zero, suc, ◌+◌, ◌<◌, ◌≤◌, List, [], ◌∷◌, Some, None, true, false, refl, sym, ◌∙◌, ap, arith, Less, nat_cmp, is_eq, is_lt, is_at, cases_Bool, cond-true, cond-false, nat_tests, lookup_head, lookup_tail}
use Rattle.rep_core.proofs.Vocabulary.{sorted_head, sorted_tail, none-some, same_Some, IsOrdered, get, keys_of, same_maps, first_from}

is_below : (a b : ℕ) → is_lt (nat_cmp a b) ≡ true → a < b
is_below a b is = grind (arith, nat_tests, is)

is_not_below : (a b : ℕ) → is_lt (nat_cmp a b) ≡ false → b ≤ a
is_not_below a b is = grind (arith, nat_tests, is)

is_apart : (a b : ℕ) → a < b → is_eq (nat_cmp a b) ≡ false
is_apart a b less = grind (arith, nat_tests, less)

is_apart_above : (a b : ℕ) → b < a → is_eq (nat_cmp a b) ≡ false
is_apart_above a b less = grind (arith, nat_tests, less)

is_less_if_apart : (a b : ℕ) → is_eq (nat_cmp a b) ≡ false → a ≤ b → a < b
is_less_if_apart a b apart most = grind (arith, nat_tests, apart, most)

is_less : (a b : ℕ) → nat_cmp a b ≡ Less → a < b
is_less a b less = is_below a b (ap is_lt less)

either : {P : Type 0} (i n : ℕ) → (i < n → P) → (n ≤ i → P) → P
either i zero l r = r (omega arith)
either zero (suc n) l r = l (omega arith)
either (suc i) (suc n) l r = either i n (λ h. l (omega arith)) (λ h. r (omega arith))

module _ {V : Type 0} where
  pub none_from : (pairs : List (ℕ × V)) (from q : ℕ) → first_from nat_cmp from pairs ≡ None → from ≤ q → get nat_cmp pairs q ≡ None
  none_from [] from q none least = refl
  none_from (e ∷ es) from q none least = search (lookup_tail, is_apart_above, is_below, cond-true, none-some, cond-false, cases_Bool, none_from es from q, arith)

  -- below the first key there is nothing
  none_before : (e : ℕ × V) (es : List (ℕ × V)) (q : ℕ) → IsOrdered nat_cmp (e ∷ es) → q < e.0 → get nat_cmp (e ∷ es) q ≡ None
  none_before e [] q ordered less = lookup_tail (is_at (nat_cmp q)) e [] (is_apart q e.0 less)
  none_before e (f ∷ fs) q ordered less =
      lookup_tail (is_at (nat_cmp q)) e (f ∷ fs) (is_apart q e.0 less)
      ∙ none_before f fs q (sorted_tail nat_cmp e.0 (keys_of (f ∷ fs)) ordered) (omega (arith, less, is_less e.0 f.0 (sorted_head nat_cmp e.0 (keys_of (f ∷ fs)) ordered).0))

  -- from the key on up to the first pair there, there is that pair alone
  alone_at : (e : ℕ × V) (es : List (ℕ × V)) (q : ℕ) → IsOrdered nat_cmp (e ∷ es) → q ≤ e.0 → get nat_cmp (e ∷ es) q ≡ get nat_cmp (e ∷ []) q
  alone_at e es q ordered most = search (lookup_head, is_less_if_apart, none_before, lookup_tail, cases_Bool, arith)

  pub first_alone : (pairs : List (ℕ × V)) (from q : ℕ) (first : ℕ × V) → IsOrdered nat_cmp pairs → first_from nat_cmp from pairs ≡ Some first → from ≤ q → q ≤ first.0 → get nat_cmp pairs q ≡ get nat_cmp (first ∷ []) q
  first_alone [] from q first ordered is least most = absurd (none-some first is)
  first_alone (e ∷ es) from q first ordered is least most = grind (lookup_tail, is_apart_above, is_below, sorted_tail, cond-true, same_Some, cond-false, alone_at, cases_Bool, first_alone es from q first, arith)

  -- two maps that have the same up to a key, and the same first pair there
  pub same_on : (pairs others : List (ℕ × V)) (from : ℕ) (first : ℕ × V) → IsOrdered nat_cmp pairs → IsOrdered nat_cmp others → ((q : ℕ) → q < from → get nat_cmp pairs q ≡ get nat_cmp others q)
      → first_from nat_cmp from pairs ≡ Some first → first_from nat_cmp from others ≡ Some first → (q : ℕ) → q < first.0 + 1 → get nat_cmp pairs q ≡ get nat_cmp others q
  same_on pairs others from first ordered ordered' same is is' q less = either q from
      (λ below. same q below)
      (λ least. first_alone pairs from q first ordered is least (omega (arith, less)) ∙ sym (first_alone others from q first ordered' is' least (omega (arith, less))))

  pub same_whole : (pairs others : List (ℕ × V)) (from : ℕ) → IsOrdered nat_cmp pairs → IsOrdered nat_cmp others → ((q : ℕ) → q < from → get nat_cmp pairs q ≡ get nat_cmp others q)
      → first_from nat_cmp from pairs ≡ None → first_from nat_cmp from others ≡ None → pairs ≡ others
  same_whole pairs others from ordered ordered' same is is' = same_maps pairs others ordered ordered' (λ q. either q from
      (λ below. same q below)
      (λ least. none_from pairs from q is least ∙ sym (none_from others from q is' least)))

  pub first_above : (pairs : List (ℕ × V)) (from : ℕ) (first : ℕ × V) → first_from nat_cmp from pairs ≡ Some first → from ≤ first.0
  first_above [] from first is = absurd (none-some first is)
  first_above (e ∷ es) from first is = search (cond-true, same_Some, cond-false, is_not_below, cases_Bool, first_above es from first, arith)
