-- No request makes the suites with a copy or an intention too many.
use Rattle.rep_core.proofs.Vocabulary.{◌≡◌, ℕ, ◌+◌, ◌≤◌, Bool, true, false, cond, List, [], ◌∷◌, length, refl, ap, ◌∙◌, ⊎_elim, arith, ◌==◌, ◌&&◌, not, filter, is_some, count_by, list_any, nat_cmp, cases_Bool, nat_tests, nat_cmp_total, IsOrdered}
use Rattle.rep_core.proofs.Vocabulary.{get, insert, length-insert, IsOrdered-insert, get_insert_here, get_insert_apart, Configuration, Replica, Opening, Intention, Part, Take, Store, root_copy, opening_store, max_suites, has_copy, suites_with}
use Rattle.rep_core.proofs.Vocabulary.{intended, overfills, with_taken, with_copies, left_by, copy_in, finished}
use Rattle.std.specs.List.Sorted.{IsStrictlySortedBy}
use Rattle.rep_core.specs.declared.request.Take.TheVariants as take
use Rattle.rep_core.proofs.Rising.{count_cons}
use Rattle.rep_core.proofs.Intentions.{is_of}

pub few_opening : (index : ℕ) (given : Opening) → suites_with (opening_store index given) ≤ max_suites
few_opening index given = search arith

pub ordered_opening : (index : ℕ) (given : Opening) → IsOrdered nat_cmp (opening_store index given).copies
unfolding IsStrictlySortedBy
ordered_opening index given = elim (list_any (λ rep. rep.0 == index) given.c0.reps) as (λ b. IsOrdered nat_cmp (cond b ((0, root_copy given) ∷ []) [])) [ true ↦ (tt, tt) | false ↦ tt ]

pub few_intended : (store : Store) (t : ℕ) (parts : List Part) → overfills t store parts ≡ false → suites_with (intended t parts store) ≤ max_suites
few_intended store t parts room = search arith

-- ---- counts

one_if_weaker : (a b : Bool) → (a ≡ true → b ≡ true) → cond a 1 0 ≤ cond b 1 0
one_if_weaker a b h2 = search arith

two_ways : (a b : Bool) → cond (a && b) 1 0 + cond (not a && b) 1 0 ≡ cond b 1 0
two_ways a b = search arith

module _ {X : Type 0} where
  count_weaker : (p q : X → Bool) → ((x : X) → p x ≡ true → q x ≡ true) → (xs : List X) → count_by p xs ≤ count_by q xs
  count_weaker p q weaker [] = omega arith
  count_weaker p q weaker (x ∷ xs) = omega (arith, count_cons p x xs, count_cons q x xs, one_if_weaker (p x) (q x) (weaker x), count_weaker p q weaker xs)

  count_filter : (p q : X → Bool) (xs : List X) → count_by p (filter q xs) ≡ count_by (λ x. q x && p x) xs
  count_filter p q [] = refl
  count_filter p q (x ∷ xs) = search (count_cons p x (filter q xs), count_cons (λ x. q x && p x) x xs, count_filter p q xs, arith)

  count_ways : (p q : X → Bool) (xs : List X) → count_by (λ x. q x && p x) xs + count_by (λ x. not (q x) && p x) xs ≡ count_by p xs
  count_ways p q [] = refl
  count_ways p q (x ∷ xs) = search (two_ways, count_cons, count_ways p q xs, arith)

-- ---- copies

abbrev there : List (ℕ × Replica) → ℕ → Bool
there copies suite = is_some (get nat_cmp copies suite)

other_key : (a b : ℕ) → (a == b) ≡ false → a ≡ b → ⊥
other_key a b e h = grind (arith, nat_tests)

same_key : (a b : ℕ) → (a == b) ≡ true → a ≡ b
same_key a b e = grind (arith, nat_tests)

inserted_there : (copies : List (ℕ × Replica)) (suite : ℕ) (copy : Replica) (z : ℕ) → there copies z ≡ true → there (insert nat_cmp copies suite copy) z ≡ true
inserted_there copies suite copy z is = ⊎_elim
    (λ here. ap (λ k. there (insert nat_cmp copies suite copy) k) (same_key z suite here) ∙ ap is_some (get_insert_here copies suite copy))
    (λ apart. ap is_some (get_insert_apart copies suite copy z (other_key z suite apart)) ∙ is)
    (cases_Bool (z == suite))

module _ (c0 : Configuration) where
  taken_there : (what : Take) (copies : List (ℕ × Replica)) (suite z : ℕ) → there copies z ≡ true → there (with_taken c0 suite what copies) z ≡ true
  taken_there what copies suite z h4 = search (inserted_there, arith)

  taken_ordered : (what : Take) (copies : List (ℕ × Replica)) (suite : ℕ) → IsOrdered nat_cmp copies → IsOrdered nat_cmp (with_taken c0 suite what copies)
  taken_ordered take.Keep copies suite rising = rising
  taken_ordered (take.Prefix prefix) copies suite rising = IsOrdered-insert nat_cmp_total copies suite (left_by (take.Prefix prefix) (copy_in c0 copies suite)) rising
  taken_ordered (take.Whole replica) copies suite rising = IsOrdered-insert nat_cmp_total copies suite (left_by (take.Whole replica) (copy_in c0 copies suite)) rising

  swap : (b : Bool) → ◌≡◌ {A = ℕ} (cond b 0 1) (cond (not b) 1 0)
  swap b = search arith

  inserted_long : (copies : List (ℕ × Replica)) (suite : ℕ) (copy : Replica) → IsOrdered nat_cmp copies → length (insert nat_cmp copies suite copy) ≤ length copies + cond (not (there copies suite)) 1 0
  inserted_long copies suite copy rising =
      let exact = length-insert nat_cmp_total copies suite copy rising in
      let one = swap (there copies suite) in
      omega (arith, exact, one)

  taken_long : (what : Take) (copies : List (ℕ × Replica)) (suite : ℕ) → IsOrdered nat_cmp copies → length (with_taken c0 suite what copies) ≤ length copies + cond (not (there copies suite)) 1 0
  taken_long what copies suite h3 = search (inserted_long, arith)

  module _ (t : ℕ) where
    -- the copies once the intention, if it is one of the transaction, has become a copy
    abbrev after_one : ℕ × Intention → List (ℕ × Replica) → List (ℕ × Replica)
    after_one e copies = cond (e.1.t == t) (with_taken c0 e.0 e.1.take copies) copies

    one_there : (e : ℕ × Intention) (copies : List (ℕ × Replica)) (z : ℕ) → there copies z ≡ true → there (after_one e copies) z ≡ true
    one_there e copies z is = elim (e.1.t == t) as (λ b. there (cond b (with_taken c0 e.0 e.1.take copies) copies) z ≡ true) [ true ↦ taken_there e.1.take copies e.0 z is | false ↦ is ]

    one_ordered : (e : ℕ × Intention) (copies : List (ℕ × Replica)) → IsOrdered nat_cmp copies → IsOrdered nat_cmp (after_one e copies)
    one_ordered e copies rising = elim (e.1.t == t) as (λ b. IsOrdered nat_cmp (cond b (with_taken c0 e.0 e.1.take copies) copies)) [ true ↦ taken_ordered e.1.take copies e.0 rising | false ↦ rising ]

    one_long : (e : ℕ × Intention) (copies : List (ℕ × Replica)) → IsOrdered nat_cmp copies → length (after_one e copies) ≤ length copies + cond (is_of t e && not (there copies e.0)) 1 0
    one_long e copies rising = search (taken_long, arith)

    all_there : (intentions : List (ℕ × Intention)) (copies : List (ℕ × Replica)) (z : ℕ) → there copies z ≡ true → there (with_copies c0 t intentions copies) z ≡ true
    all_there [] copies z is = is
    all_there (e ∷ es) copies z is = all_there es (after_one e copies) z (one_there e copies z is)

    pub all_ordered : (intentions : List (ℕ × Intention)) (copies : List (ℕ × Replica)) → IsOrdered nat_cmp copies → IsOrdered nat_cmp (with_copies c0 t intentions copies)
    all_ordered [] copies rising = rising
    all_ordered (e ∷ es) copies rising = all_ordered es (after_one e copies) (one_ordered e copies rising)

    -- where nothing is left, nothing was
    was_absent : (own before after : Bool) → (before ≡ true → after ≡ true) → (own && not after) ≡ true → (own && not before) ≡ true
    was_absent own before after h3 h4 = search arith

    all_long : (intentions : List (ℕ × Intention)) (copies : List (ℕ × Replica)) → IsOrdered nat_cmp copies → length (with_copies c0 t intentions copies) ≤ length copies + count_by (λ e. is_of t e && not (there copies e.0)) intentions
    all_long [] copies rising = omega arith
    all_long (e ∷ es) copies rising =
        let after = after_one e copies in
        let rest = all_long es after (one_ordered e copies rising) in
        let fewer = count_weaker (λ x. is_of t x && not (there after x.0)) (λ x. is_of t x && not (there copies x.0)) (λ x. was_absent (is_of t x) (there copies x.0) (there after x.0) (one_there e copies x.0)) es in
        omega (arith, rest, fewer, one_long e copies rising, count_cons (λ x. is_of t x && not (there copies x.0)) e es)

-- ---- Finish

few_answered : (store : Store) (t : ℕ) → IsOrdered nat_cmp store.copies → suites_with (finished t true store) ≤ suites_with store
few_answered store t rising =
    let old = store.copies in
    let new = with_copies store.c0 t store.intentions old in
    let left = count_filter (λ e. not (there new e.0)) (λ e. not (e.1.t == t)) store.intentions in
    let fewer = count_weaker (λ x. not (is_of t x) && not (there new x.0)) (λ x. not (is_of t x) && not (there old x.0))
    (λ x. was_absent store.c0 t (not (is_of t x)) (there old x.0) (there new x.0) (all_there store.c0 t store.intentions old x.0)) store.intentions in
    let ways = count_ways (λ e. not (there old e.0)) (is_of t) store.intentions in
    omega (arith, all_long store.c0 t store.intentions old rising, left, fewer, ways)

few_dropped : (store : Store) (t : ℕ) → suites_with (finished t false store) ≤ suites_with store
few_dropped store t = search (count_filter (λ e. not (has_copy store e.0)) (λ e. not (e.1.t == t)) store.intentions, count_ways (λ e. not (has_copy store e.0)) (is_of t) store.intentions, is_of t, arith)

pub few_finished : (store : Store) (t : ℕ) (answered : Bool) → IsOrdered nat_cmp store.copies → suites_with store ≤ max_suites → suites_with (finished t answered store) ≤ max_suites
few_finished store t answered h3 h4 = search (few_answered, few_dropped, arith)
