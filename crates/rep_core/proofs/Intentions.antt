-- What the intentions of a transaction become, one after the other.
use Rattle.rep_core.proofs.Vocabulary.{◌≡◌, ℕ, ◌==◌, ◌+◌, ◌≤◌, ◌<◌, zero, suc, add-one, get_or, Less, Greater, subst, Bool, true, false, cond, List, [], ◌∷◌, length, Some, None, IsSome, refl, sym, ap, ◌∙◌, ⊎_elim, arith, unwrap_or, is_some, nat_cmp}
use Rattle.rep_core.proofs.Vocabulary.{is_eq, eq_by_cmp_equiv, is_at, AllByRecursion, list_all, keys_of, cases_Bool, false≢true, and_parts, nat_tests, nat_cmp_total, none-some, same_Some, none_past_head, lookup_head, lookup_tail, sorted_head}
use Rattle.rep_core.proofs.Vocabulary.{sorted_tail, IsDistinct-from_sorted, IsOrdered, get, insert, insert_step, length-insert, get_insert_here, get_insert_apart, Configuration, Replica, Intention, Part, Take, absent_copy, is_keep, with_intentions}
use Rattle.rep_core.proofs.Vocabulary.{copy_in, left_by, with_taken, with_copies, without_intentions, in_effect, take as first_items}
use Rattle.std.proofs.lemmas.Map.{lookup-none}
use Rattle.rep_core.specs.declared.request.Take.TheVariants as take

same_key : (key other : ℕ) → is_eq (nat_cmp key other) ≡ true → key ≡ other
same_key key other here = grind (arith, nat_tests)

pub at_itself : (key : ℕ) → is_eq (nat_cmp key key) ≡ true
at_itself key = grind (arith, nat_tests)

pub at_most_one : (b : Bool) → cond b 0 1 ≤ 1
at_most_one b = search arith

pub swapped : (key other : ℕ) → nat_cmp key other ≡ Less → nat_cmp other key ≡ Greater
swapped key other less = grind (arith, nat_tests)

module _ {V : Type 0} where
  -- behind the first pair of an ordered list its key is absent
  pub absent_behind : (e : ℕ × V) (es : List (ℕ × V)) (key : ℕ) → IsOrdered nat_cmp (e ∷ es) → is_at (nat_cmp key) e.0 ≡ true → get nat_cmp es key ≡ None
  absent_behind e es key rising here = lookup-none (is_at (nat_cmp key)) es (none_past_head (eq_by_cmp_equiv nat_cmp_total) key e es (IsDistinct-from_sorted nat_cmp _ rising) here)

  -- where a key is there behind the first pair, it is another
  pub apart_behind : (e : ℕ × V) (es : List (ℕ × V)) (key : ℕ) → IsOrdered nat_cmp (e ∷ es) → IsSome (get nat_cmp es key) → is_at (nat_cmp key) e.0 ≡ false
  apart_behind e es key rising there = search (false≢true, absent_behind, cases_Bool, arith)

  -- what holds of each key holds of the key at a place
  pub at_index : (P : ℕ → Type 0) (es : List (ℕ × V)) (i : ℕ) (pair : ℕ × V) → i < length es → pair ≡ get_or es i pair → AllByRecursion P (keys_of es) → P pair.0
  at_index P [] i pair in_range is all = absurd (omega arith)
  at_index P (e ∷ es) zero pair in_range is all = subst (λ (p : ℕ × V). P p.0) (sym is) all.0
  at_index P (e ∷ es) (suc i) pair in_range is all = at_index P es i pair (omega arith) is all.1

  insert_after : (pairs : List (ℕ × V)) (i : ℕ) (pair : ℕ × V) → IsOrdered nat_cmp pairs → i < length pairs → pair ≡ get_or pairs i pair → insert nat_cmp (first_items i pairs) pair.0 pair.1 ≡ first_items (suc i) pairs
  insert_after [] i pair rising in_range is = absurd (omega arith)
  insert_after (e ∷ es) zero pair rising in_range is = ap (λ p. p ∷ []) is
  insert_after (e ∷ es) (suc i) pair rising in_range is =
      let above = at_index (λ b. nat_cmp e.0 b ≡ Less) es i pair (omega arith) is (sorted_head nat_cmp e.0 (keys_of es) rising) in
      insert_step nat_cmp e (first_items i es) pair.0 pair.1 Greater (swapped e.0 pair.0 above)
      ∙ ap (λ l. e ∷ l) (insert_after es i pair (sorted_tail nat_cmp e.0 (keys_of es) rising) (omega arith) is)

  -- the next pair of an ordered list goes to the end of those before it
  pub insert_next : (pairs : List (ℕ × V)) (i : ℕ) (pair : ℕ × V) → IsOrdered nat_cmp pairs → i < length pairs → pair ≡ get_or pairs i pair → insert nat_cmp (first_items i pairs) pair.0 pair.1 ≡ first_items (i + 1) pairs
  insert_next pairs i pair rising in_range is = insert_after pairs i pair rising in_range is ∙ ap (λ n. first_items n pairs) (sym (add-one i))

  -- an insert makes a list longer by one at most
  pub length-inserted : (pairs : List (ℕ × V)) (key : ℕ) (value : V) → IsOrdered nat_cmp pairs → length (insert nat_cmp pairs key value) ≤ length pairs + 1
  length-inserted pairs key value rising =
      let exact = length-insert nat_cmp_total pairs key value rising in
      ⊎_elim
      (λ there. let same : length (insert nat_cmp pairs key value) ≡ length pairs + 0 = exact ∙ ap (λ b. length pairs + cond b 0 1) there in omega arith)
      (λ absent. let more : length (insert nat_cmp pairs key value) ≡ length pairs + 1 = exact ∙ ap (λ b. length pairs + cond b 0 1) absent in omega arith)
      (cases_Bool (is_some (get nat_cmp pairs key)))

abbrev pub is_of : ℕ → ℕ × Intention → Bool
is_of t pair = pair.1.t == t

module _ (t : ℕ) where
  -- an intention that is left was there, and is another transaction's
  pub get-without : (intentions : List (ℕ × Intention)) (suite : ℕ) (intention : Intention) → IsOrdered nat_cmp intentions
      → get nat_cmp (without_intentions t intentions) suite ≡ Some intention → (get nat_cmp intentions suite ≡ Some intention) × ((intention.t == t) ≡ false)
  get-without [] suite intention rising has = absurd (none-some intention has)
  get-without (e ∷ es) suite intention rising has = search (sorted_tail, apart_behind, lookup_tail, same_Some, lookup_head, cases_Bool, get-without es suite intention, arith)

-- ---- the copy of a suite afterwards

module _ (c0 : Configuration) where
  -- at the suite of a take, and at another
  copy_in-taken : (what : Take) (copies : List (ℕ × Replica)) (suite : ℕ) → copy_in c0 (with_taken c0 suite what copies) suite ≡ left_by what (copy_in c0 copies suite)
  copy_in-taken take.Keep copies suite = refl
  copy_in-taken _ copies suite = ap (λ o. unwrap_or o (absent_copy c0)) (get_insert_here copies suite _)

  copy_in-apart : (what : Take) (copies : List (ℕ × Replica)) (suite q : ℕ) → (q ≡ suite → ⊥) → copy_in c0 (with_taken c0 suite what copies) q ≡ copy_in c0 copies q
  copy_in-apart take.Keep copies suite q apart = refl
  copy_in-apart _ copies suite q apart = ap (λ o. unwrap_or o (absent_copy c0)) (get_insert_apart copies suite _ q apart)

  -- once the intentions of a transaction have become copies, the copy of a suite is the one that was in effect with the transaction decided
  pub copy_in-with_copies : (t : ℕ) (intentions : List (ℕ × Intention)) (copies : List (ℕ × Replica)) (suite : ℕ) → IsOrdered nat_cmp intentions
      → copy_in c0 (with_copies c0 t intentions copies) suite ≡ in_effect (get nat_cmp intentions suite) (λ u. u == t) (copy_in c0 copies suite)
  copy_in-with_copies t [] copies suite rising = refl
  copy_in-with_copies t (e ∷ es) copies suite rising =
      let after : List (ℕ × Replica) = cond (is_of t e) (with_taken c0 e.0 e.1.take copies) copies in
      let rest = copy_in-with_copies t es after suite (sorted_tail nat_cmp e.0 (keys_of es) rising) in
      ⊎_elim
      (λ here.
      let same : suite ≡ e.0 = same_key suite e.0 here in
      rest
      ∙ ap (λ o. in_effect o (λ u. u == t) (copy_in c0 after suite)) (absent_behind e es suite rising here)
      ∙ ⊎_elim
      (λ mine.
      ap (λ b. copy_in c0 (cond b (with_taken c0 e.0 e.1.take copies) copies) suite) mine
      ∙ ap (λ k. copy_in c0 (with_taken c0 k e.1.take copies) suite) (sym same)
      ∙ copy_in-taken e.1.take copies suite
      ∙ ap (λ b. cond b (left_by e.1.take (copy_in c0 copies suite)) (copy_in c0 copies suite)) (sym mine))
      (λ other.
      ap (λ b. copy_in c0 (cond b (with_taken c0 e.0 e.1.take copies) copies) suite) other
      ∙ ap (λ b. cond b (left_by e.1.take (copy_in c0 copies suite)) (copy_in c0 copies suite)) (sym other))
      (cases_Bool (is_of t e))
      ∙ ap (λ o. in_effect o (λ u. u == t) (copy_in c0 copies suite)) (sym (lookup_head (is_at (nat_cmp suite)) e es here)))
      (λ there.
      rest
      ∙ ap (λ c. in_effect (get nat_cmp es suite) (λ u. u == t) c) (⊎_elim
      (λ mine.
      ap (λ b. copy_in c0 (cond b (with_taken c0 e.0 e.1.take copies) copies) suite) mine
      ∙ copy_in-apart e.1.take copies e.0 suite (λ same. false≢true (sym there ∙ ap (λ k. is_eq (nat_cmp suite k)) (sym same) ∙ at_itself suite)))
      (λ other. ap (λ b. copy_in c0 (cond b (with_taken c0 e.0 e.1.take copies) copies) suite) other)
      (cases_Bool (is_of t e)))
      ∙ ap (λ o. in_effect o (λ u. u == t) (copy_in c0 copies suite)) (sym (lookup_tail (is_at (nat_cmp suite)) e es there)))
      (cases_Bool (is_at (nat_cmp suite) e.0))

-- parts that take nothing leave the intentions as they were
pub nothing_taken : (t : ℕ) (parts : List Part) (intentions : List (ℕ × Intention)) → list_all (λ part. is_keep part.take) parts ≡ true → with_intentions t parts intentions ≡ intentions
nothing_taken t [] intentions keeps = refl
nothing_taken t (part ∷ parts) intentions keeps = search (and_parts, nothing_taken t parts intentions, arith)
