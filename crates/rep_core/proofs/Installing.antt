-- The intentions of a transaction become copies, place by place: what is taken at a place is gone.
use Rattle.rep_core.proofs.Vocabulary.{◌≡◌, ℕ, ◌+◌, ◌<◌, ◌≤◌, zero, suc, add-one, take, drop, get_or, filter, Less, Bool, true, false, cond, not, List, [], ◌∷◌, length, Some, refl, sym, ap, ◌∙◌, arith, IfSome, list_all, nat_cmp, is_at, keys_of}
use Rattle.rep_core.proofs.Vocabulary.{and_parts, and_from, drop_more, take_all, lookup_head, lookup_tail, sorted_head, sorted_tail, IsOrdered, get, remove, Configuration, Replica, Form, Intention, with_taken, with_copies, with_form, with_forms}
use Rattle.rep_core.proofs.Vocabulary.{without_intentions}
use Rattle.std.specs.Prelude.{remove as without}
use Rattle.rep_core.proofs.Intentions.{is_of, at_index, at_itself}

-- ---- a list without the element at a place

module _ {X : Type 0} where
  length-without : (xs : List X) (i : ℕ) → i < length xs → length (without xs i) + 1 ≡ length xs
  length-without [] i in_range = absurd (omega arith)
  length-without (x ∷ xs) zero in_range = omega arith
  length-without (x ∷ xs) (suc i) in_range = let rest = length-without xs i (omega arith) in omega (arith, rest)

  drop-without : (xs : List X) (i : ℕ) → i < length xs → drop i (without xs i) ≡ drop (suc i) xs
  drop-without [] i in_range = absurd (omega arith)
  drop-without (x ∷ xs) zero in_range = refl
  drop-without (x ∷ xs) (suc i) in_range = drop-without xs i (omega arith)

  take-without : (xs : List X) (i : ℕ) → i < length xs → take i (without xs i) ≡ take i xs
  take-without [] i in_range = absurd (omega arith)
  take-without (x ∷ xs) zero in_range = refl
  take-without (x ∷ xs) (suc i) in_range = ap (λ l. x ∷ l) (take-without xs i (omega arith))

  module _ (p : X → Bool) where
    -- a filter that drops it sees no difference
    filter-without : (xs : List X) (i : ℕ) (x : X) → i < length xs → x ≡ get_or xs i x → p x ≡ false → filter p (without xs i) ≡ filter p xs
    filter-without [] i x in_range is fails = absurd (omega arith)
    filter-without (e ∷ es) zero x in_range is fails = sym (ap (λ b. cond b (e ∷ filter p es) (filter p es)) (ap p (sym is) ∙ fails))
    filter-without (e ∷ es) (suc i) x in_range is fails = ap (λ l. cond (p e) (e ∷ l) l) (filter-without es i x (omega arith) is fails)

    -- where the first ones pass, and the next does
    all_next : (xs : List X) (i : ℕ) (x : X) → i < length xs → x ≡ get_or xs i x → p x ≡ true → list_all p (take i xs) ≡ true → list_all p (take (suc i) xs) ≡ true
    all_next [] i x in_range is passes all = absurd (omega arith)
    all_next (e ∷ es) zero x in_range is passes all = and_from (p e) true (ap p (sym is) ∙ passes) refl
    all_next (e ∷ es) (suc i) x in_range is passes all = search (and_parts, and_from, all_next es i x, arith)

    filter_all : (xs : List X) → list_all p xs ≡ true → filter p xs ≡ xs
    filter_all [] all = refl
    filter_all (e ∷ es) all = search (and_parts, filter_all es, arith)

-- ---- a map without the key at a place

module _ {V : Type 0} where
  -- the key of a pair behind the first one is greater
  greater_at : (e : ℕ × V) (es : List (ℕ × V)) (i : ℕ) (pair : ℕ × V) → IsOrdered nat_cmp (e ∷ es) → i < length es → pair ≡ get_or es i pair → is_at (nat_cmp pair.0) e.0 ≡ false
  greater_at e es i pair rising in_range is = search (at_index (λ b. nat_cmp e.0 b ≡ Less) es i pair in_range is (sorted_head nat_cmp e.0 (keys_of es) rising), sorted_head nat_cmp e.0 (keys_of es) rising, arith)

  -- the value at a place's key is the one there
  pub has_at : (pairs : List (ℕ × V)) (i : ℕ) (pair : ℕ × V) → IsOrdered nat_cmp pairs → i < length pairs → pair ≡ get_or pairs i pair → get nat_cmp pairs pair.0 ≡ Some pair.1
  has_at [] i pair rising in_range is = absurd (omega arith)
  has_at (e ∷ es) zero pair rising in_range is = search (lookup_head, at_itself, arith)
  has_at (e ∷ es) (suc i) pair rising in_range is = search (lookup_tail, greater_at, sorted_tail, has_at es i pair, arith)

  -- without a place's key it is without the place
  without_at : (pairs : List (ℕ × V)) (i : ℕ) (pair : ℕ × V) → IsOrdered nat_cmp pairs → i < length pairs → pair ≡ get_or pairs i pair → remove nat_cmp pairs pair.0 ≡ without pairs i
  without_at [] i pair rising in_range is = absurd (omega arith)
  without_at (e ∷ es) zero pair rising in_range is = search (at_itself, arith)
  without_at (e ∷ es) (suc i) pair rising in_range is = search (greater_at, sorted_tail, without_at es i pair, arith)

-- ---- the intention at a place

module _ (t : ℕ) (intentions : List (ℕ × Intention)) (i : ℕ) (pair : ℕ × Intention) (in_range : i < length intentions) (is : pair ≡ get_or intentions i pair) where
  next : drop i intentions ≡ pair ∷ drop (i + 1) intentions
  next = drop_more intentions i pair in_range ∙ ap (λ p. p ∷ drop (i + 1) intentions) (sym is)

  -- another's intention stays
  module _ (other : is_of t pair ≡ false) where
    pub with_copies-other : (c0 : Configuration) (copies : List (ℕ × Replica)) → with_copies c0 t (drop i intentions) copies ≡ with_copies c0 t (drop (i + 1) intentions) copies
    with_copies-other c0 copies = search (next, arith)

    pub with_forms-other : (forms : List (ℕ × Form)) → with_forms t (drop i intentions) forms ≡ with_forms t (drop (i + 1) intentions) forms
    with_forms-other forms = search (next, arith)

    pub passed-other : list_all (λ p. not (is_of t p)) (take i intentions) ≡ true → list_all (λ p. not (is_of t p)) (take (i + 1) intentions) ≡ true
    passed-other all = ap (λ n. list_all (λ p. not (is_of t p)) (take n intentions)) (add-one i) ∙ all_next (λ p. not (is_of t p)) intentions i pair in_range is (ap not other) all

  -- the transaction's own one becomes a copy, and is gone
  module _ (mine : is_of t pair ≡ true) (after : List (ℕ × Intention)) (rising : IsOrdered nat_cmp intentions) (gone : after ≡ remove nat_cmp intentions pair.0) where
    left : after ≡ without intentions i
    left = gone ∙ without_at intentions i pair rising in_range is

    pub length-taken : length after + 1 ≡ length intentions
    length-taken = ap (λ l. length l + 1) left ∙ length-without intentions i in_range

    pub passed-taken : take i after ≡ take i intentions
    passed-taken = ap (take i) left ∙ take-without intentions i in_range

    pub others-taken : without_intentions t after ≡ without_intentions t intentions
    others-taken = ap (without_intentions t) left ∙ filter-without (λ p. not (is_of t p)) intentions i pair in_range is (ap not mine)

    behind : drop i after ≡ drop (i + 1) intentions
    behind = ap (drop i) left ∙ drop-without intentions i in_range ∙ ap (λ n. drop n intentions) (sym (add-one i))

    pub with_forms-taken : (forms : List (ℕ × Form)) → with_forms t (drop i intentions) forms ≡ with_forms t (drop i after) (with_form pair.0 pair.1.take forms)
    with_forms-taken forms = search (next, behind, arith)

    pub with_copies-taken : (c0 : Configuration) (copies taken : List (ℕ × Replica)) → IfSome (get nat_cmp intentions pair.0)
        (λ intention. (c : Configuration) → taken ≡ with_taken c pair.0 intention.take copies) → with_copies c0 t (drop i intentions) copies ≡ with_copies c0 t (drop i after) taken
    with_copies-taken c0 copies taken said = search (has_at, next, behind, arith)

-- where all are passed, no own one is left
pub all_passed : (t : ℕ) (intentions : List (ℕ × Intention)) (i : ℕ) → length intentions ≤ i → list_all (λ p. not (is_of t p)) (take i intentions) ≡ true → without_intentions t intentions ≡ intentions
all_passed t intentions i over all = filter_all (λ p. not (is_of t p)) intentions (ap (list_all (λ p. not (is_of t p))) (sym (take_all i intentions over)) ∙ all)
