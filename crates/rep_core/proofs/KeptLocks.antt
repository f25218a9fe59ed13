-- Locks by their keys: the list that they stand for, and what each edit of their maps makes of it.
use Rattle.rep_core.proofs.Vocabulary.{◌≡◌, ℕ, ◌<◌, ◌^◌, Bool, true, false, cond, List, [], ◌∷◌, Option, Some, None, is_some, refl, sym, ap, ◌∙◌, arith, Less, ◌==◌, ◌&&◌, not, option_map, list_all, AllByRecursion, is_at, keys_of, and_parts, and_from}
use Rattle.rep_core.proofs.Vocabulary.{false≢true, nat_tests, none-some, IsOrdered, get, insert, remove, first_from, get-insert, get-remove, IsOrdered-remove, IsOrdered-insert, LockMode, Lock, IsAlone, before, rise, is_own, lock_at, has_lock, Holder}
use Rattle.rep_core.proofs.Vocabulary.{holder_cmp, AreHeld}
use Rattle.std.specs.List.Sorted.{IsStrictlySortedBy}
use Rattle.rep_core.specs.code.Keyed.{Kept, lock_with, lock_of, locks_of, is_loose, is_loose_pair, AreKept, AreNumbered, IsPut, without, are_none}
use Rattle.rep_core.specs.code.Holders as holding
use Rattle.rep_core.proofs.Members.{all_at}
use Rattle.rep_core.proofs.Alone.{own_is}
use Rattle.rep_core.proofs.Finding.{any_find, find_some, find_filter_same, find_filter_none}
use Rattle.rep_core.proofs.LockLookups.{one_each}
use Rattle.rep_core.proofs.Rising.{rise_filter}
use Rattle.rep_core.proofs.SuiteHolders.{holder_total, key_is}

-- ---- the list that they stand for

and_turned : (a b : Bool) → (a && b) ≡ (b && a)
and_turned a b = search arith

-- whether a key is this one
at_key : (t s u z : ℕ) → is_at (holder_cmp (t, s)) (u, z) ≡ ((u == t) && (z == s))
at_key t s u z = key_is t s u z ∙ and_turned (z == s) (u == t)

own_key : (u z : ℕ) (p : Kept) → is_own u z (lock_of p) ≡ is_at (holder_cmp (u, z)) p.0
own_key u z p = sym (at_key u z p.0.0 p.0.1)

pub lock_at-kept : (ps : List Kept) (u z : ℕ) → lock_at u z (locks_of ps) ≡ option_map (lock_with u z) (get holder_cmp ps (u, z))
lock_at-kept [] u z = refl
lock_at-kept (p ∷ ps) u z = search (own_is, own_key, lock_at-kept ps u z, arith)

before_by : (a b : Kept) → holder_cmp a.0 b.0 ≡ Less → before (lock_of a) (lock_of b) ≡ true
before_by a b less = search arith

before_all : (a : Kept) (ps : List Kept) → AllByRecursion (λ b. holder_cmp a.0 b ≡ Less) (keys_of ps) → list_all (before (lock_of a)) (locks_of ps) ≡ true
before_all a [] all = refl
before_all a (p ∷ ps) all = and_from (before (lock_of a) (lock_of p)) (list_all (before (lock_of a)) (locks_of ps)) (before_by a p all.0) (before_all a ps all.1)

pub rise-kept : (ps : List Kept) → IsOrdered holder_cmp ps → rise (locks_of ps) ≡ true
unfolding IsStrictlySortedBy
rise-kept [] ordered = refl
rise-kept (p ∷ ps) ordered = and_from (list_all (before (lock_of p)) (locks_of ps)) (rise (locks_of ps)) (before_all p ps ordered.0) (rise-kept ps ordered.1)

-- ---- look-ups tell lists of locks apart

itself : (l : Lock) → is_own l.t l.suite l ≡ true
itself l = grind (arith, nat_tests)

not_both : (a b : Lock) → before a b ≡ true → before b a ≡ true → ⊥
not_both a b is back = grind (arith, nat_tests)

own_head : (l : Lock) (ls : List Lock) → lock_at l.t l.suite (l ∷ ls) ≡ Some l
own_head l ls = ap (λ b. cond b (Some l) (lock_at l.t l.suite ls)) (itself l)

-- the lock is the first, or one that the first stands before
behind_head : (l x : Lock) (ls : List Lock) → list_all (before x) ls ≡ true → lock_at l.t l.suite (x ∷ ls) ≡ Some l → (is_own l.t l.suite x ≡ false) → before x l ≡ true
behind_head l x ls all is other =
    let later : lock_at l.t l.suite ls ≡ Some l = sym (ap (λ b. cond b (Some x) (lock_at l.t l.suite ls)) other) ∙ is in
    all_at (before x) ls l all (find_some (is_own l.t l.suite) ls l later).0

module _ (x y : Lock) (xs ys : List Lock) (up : rise (x ∷ xs) ≡ true) (up' : rise (y ∷ ys) ≡ true) (same : (u z : ℕ) → lock_at u z (x ∷ xs) ≡ lock_at u z (y ∷ ys)) where
  heads : x ≡ y
  heads =
      elim (is_own x.t x.suite y) as (λ b. is_own x.t x.suite y ≡ b → x ≡ y) [
        | true ↦ λ own.
            let both : Some x ≡ Some y = sym (own_head x xs) ∙ same x.t x.suite ∙ ap (λ b. cond b (Some y) (lock_at x.t x.suite ys)) own in
            cc
        | false ↦ λ other.
            let one = behind_head x y ys (and_parts (list_all (before y) ys) (rise ys) up').0 (sym (same x.t x.suite) ∙ own_head x xs) other in
            let two = behind_head y x xs (and_parts (list_all (before x) xs) (rise xs) up).0 (same y.t y.suite ∙ own_head y ys) (turned x y other) in
            absurd (not_both y x one two)
      ] refl
    where
      turned : (a b : Lock) → is_own a.t a.suite b ≡ false → is_own b.t b.suite a ≡ false
      turned a b other = grind (arith, nat_tests)

  tails : (u z : ℕ) → lock_at u z xs ≡ lock_at u z ys
  tails u z =
      let is_y : is_own u z y ≡ is_own u z x = ap (is_own u z) (sym heads) in
      elim (is_own u z x) as (λ b. is_own u z x ≡ b → lock_at u z xs ≡ lock_at u z ys) [
        | true ↦ λ own. (one_each u z (x ∷ xs) up).0 own ∙ sym ((one_each u z (y ∷ ys) up').0 (is_y ∙ own))
        | false ↦ λ other. sym (ap (λ b. cond b (Some x) (lock_at u z xs)) other) ∙ same u z ∙ ap (λ b. cond b (Some y) (lock_at u z ys)) (is_y ∙ other)
      ] refl

pub same_locks : (xs ys : List Lock) → rise xs ≡ true → rise ys ≡ true → ((u z : ℕ) → lock_at u z xs ≡ lock_at u z ys) → xs ≡ ys
same_locks [] [] up up' same = refl
same_locks [] (y ∷ ys) up up' same = let no : None ≡ Some y = same y.t y.suite ∙ own_head y ys in cc
same_locks (x ∷ xs) [] up up' same = let no : None ≡ Some x = sym (same x.t x.suite) ∙ own_head x xs in cc
same_locks (x ∷ xs) (y ∷ ys) up up' same = search (and_parts, tails, heads, same_locks xs ys, arith)

-- ---- what stands beside them

some_mapped : (u z : ℕ) (o : Option (LockMode × Bool)) → is_some (option_map (lock_with u z) o) ≡ is_some o
some_mapped u z o = search arith

loose_mapped : (u z : ℕ) (o : Option (LockMode × Bool)) → is_loose (option_map (lock_with u z) o) ≡ is_loose_pair o
loose_mapped u z o = search arith

pub has-kept : (ps : List Kept) (u z : ℕ) → has_lock u z (locks_of ps) ≡ is_some (get holder_cmp ps (u, z))
has-kept ps u z = any_find (is_own u z) (locks_of ps) ∙ ap is_some (lock_at-kept ps u z) ∙ some_mapped u z (get holder_cmp ps (u, z))

pub loose-kept : (ps : List Kept) (u z : ℕ) → is_loose (lock_at u z (locks_of ps)) ≡ is_loose_pair (get holder_cmp ps (u, z))
loose-kept ps u z = ap is_loose (lock_at-kept ps u z) ∙ loose_mapped u z (get holder_cmp ps (u, z))

module _ (ps : List Kept) (hs ls : List Holder) (kept : AreKept ps hs ls) where
  pub held-kept : IsAlone (locks_of ps) → AreHeld (locks_of ps) hs
  held-kept alone = record { rising = rise-kept ps kept.ordered; alone = alone; ordered = kept.holders_ordered; same = λ t s. kept.held t s ∙ sym (has-kept ps t s) }

  pub numbered-kept : AreNumbered (locks_of ps)
  numbered-kept t s has = kept.few t s (sym (has-kept ps t s) ∙ has)

  get_put : {V : Type 0} (os : List ((ℕ × ℕ) × V)) (t s u z : ℕ) (value : V) → get holder_cmp (insert holder_cmp os (t, s) value) (u, z) ≡ cond ((u == t) && (z == s)) (Some value) (get holder_cmp os (u, z))
  get_put os t s u z value = get-insert holder_total os (t, s) value (u, z) ∙ ap (λ b. cond b (Some value) (get holder_cmp os (u, z))) (at_key t s u z)

  get_gone : {V : Type 0} (os : List ((ℕ × ℕ) × V)) → IsOrdered holder_cmp os → (t s u z : ℕ) → get holder_cmp (remove holder_cmp os (t, s)) (u, z) ≡ cond ((u == t) && (z == s)) None (get holder_cmp os (u, z))
  get_gone os ordered t s u z = get-remove holder_total os (t, s) (u, z) ordered ∙ ap (λ b. cond b None (get holder_cmp os (u, z))) (at_key t s u z)

  module _ (t s : ℕ) (value : LockMode × Bool) where
    kept_put : (t < 2 ^ 64) → (s < 2 ^ 64) → (after : List Holder) → IsOrdered holder_cmp after
        → ((u z : ℕ) → is_some (get holder_cmp after (u, z)) ≡ cond ((u == t) && (z == s)) (not value.1) (is_some (get holder_cmp ls (u, z))))
        → AreKept (insert holder_cmp ps (t, s) value) (insert holder_cmp hs (s, t) tt) after
    kept_put few_t few_s after ordered is = record {
      ordered = IsOrdered-insert holder_total ps (t, s) value kept.ordered;
      holders_ordered = IsOrdered-insert holder_total hs (s, t) tt kept.holders_ordered;
      loose_ordered = ordered;
      held = search (get_put, and_turned, by_choice, arith);
      loosely = search (loose_choice, get_put, arith);
      few = λ u z has. by u z ((u == t) && (z == s)) refl (sym (ap is_some (get_put ps t s u z value)) ∙ has);
    }
      where
        by_choice : (b : Bool) (o : Option (Unit {0})) (p : Option (LockMode × Bool)) → is_some o ≡ is_some p → is_some (cond b (Some tt) o) ≡ is_some (cond b (Some value) p)
        by_choice b o p h3 = search arith

        loose_choice : (b o : Bool) (p : Option (LockMode × Bool)) → o ≡ is_loose_pair p → cond b (not value.1) o ≡ is_loose_pair (cond b (Some value) p)
        loose_choice b o p h3 = search arith

        both : (u z : ℕ) → ((u == t) && (z == s)) ≡ true → (u < 2 ^ 64) × (z < 2 ^ 64)
        both u z e = (grind (arith, nat_tests), grind (arith, nat_tests))

        by : (u z : ℕ) (b : Bool) → ((u == t) && (z == s)) ≡ b → is_some (cond b (Some value) (get holder_cmp ps (u, z))) ≡ true → (u < 2 ^ 64) × (z < 2 ^ 64)
        by u z b h3 h4 = search (both, arith)

    -- a prepared lock is none that is not
    pub kept_tight : value.1 ≡ true → (t < 2 ^ 64) → (s < 2 ^ 64) → AreKept (insert holder_cmp ps (t, s) value) (insert holder_cmp hs (s, t) tt) (remove holder_cmp ls (t, s))
    kept_tight tight few_t few_s = kept_put few_t few_s (remove holder_cmp ls (t, s)) (IsOrdered-remove holder_total ls (t, s) kept.loose_ordered) (λ u z.
        ap is_some (get_gone ls kept.loose_ordered t s u z) ∙ by ((u == t) && (z == s)) (get holder_cmp ls (u, z)) ∙ sym (ap (λ p. cond ((u == t) && (z == s)) (not p) (is_some (get holder_cmp ls (u, z)))) tight))
      where
        by : (b : Bool) (o : Option (Unit {0})) → is_some (cond b None o) ≡ cond b (not true) (is_some o)
        by b o = search arith

    -- one that is not is listed
    pub kept_loose : value.1 ≡ false → (t < 2 ^ 64) → (s < 2 ^ 64) → AreKept (insert holder_cmp ps (t, s) value) (insert holder_cmp hs (s, t) tt) (insert holder_cmp ls (t, s) tt)
    kept_loose loose few_t few_s = kept_put few_t few_s (insert holder_cmp ls (t, s) tt) (IsOrdered-insert holder_total ls (t, s) tt kept.loose_ordered) (λ u z.
        ap is_some (get_put ls t s u z tt) ∙ by ((u == t) && (z == s)) (get holder_cmp ls (u, z)) ∙ sym (ap (λ p. cond ((u == t) && (z == s)) (not p) (is_some (get holder_cmp ls (u, z)))) loose))
      where
        by : (b : Bool) (o : Option (Unit {0})) → is_some (cond b (Some tt) o) ≡ cond b (not false) (is_some o)
        by b o = search arith

    pub is_put : IsPut t s value (locks_of ps) (locks_of (insert holder_cmp ps (t, s) value))
    is_put = record {
      was_rising = rise-kept ps kept.ordered;
      rising = rise-kept (insert holder_cmp ps (t, s) value) (IsOrdered-insert holder_total ps (t, s) value kept.ordered);
      at = λ u z. lock_at-kept (insert holder_cmp ps (t, s) value) u z ∙ ap (option_map (lock_with u z)) (get_put ps t s u z value) ∙ by u z ((u == t) && (z == s)) refl;
    }
      where
        both : (u z : ℕ) → ((u == t) && (z == s)) ≡ true → (u ≡ t) × (z ≡ s)
        both u z e = (grind (arith, nat_tests), grind (arith, nat_tests))

        by : (u z : ℕ) (b : Bool) → ((u == t) && (z == s)) ≡ b → option_map (lock_with u z) (cond b (Some value) (get holder_cmp ps (u, z))) ≡ cond b (Some (lock_with t s value)) (lock_at u z (locks_of ps))
        by u z b h3 = search (both, lock_at-kept, arith)

  module _ (t s : ℕ) where
    pub kept_gone : AreKept (remove holder_cmp ps (t, s)) (remove holder_cmp hs (s, t)) (remove holder_cmp ls (t, s))
    kept_gone = record {
      ordered = IsOrdered-remove holder_total ps (t, s) kept.ordered;
      holders_ordered = IsOrdered-remove holder_total hs (s, t) kept.holders_ordered;
      loose_ordered = IsOrdered-remove holder_total ls (t, s) kept.loose_ordered;
      held = λ u z.
          ap is_some (get_gone hs kept.holders_ordered s t z u ∙ ap (λ b. cond b None (get holder_cmp hs (z, u))) (and_turned (z == s) (u == t)))
          ∙ by_choice ((u == t) && (z == s)) (get holder_cmp hs (z, u)) (get holder_cmp ps (u, z)) (kept.held u z)
          ∙ sym (ap is_some (get_gone ps kept.ordered t s u z));
      loosely = λ u z.
          ap is_some (get_gone ls kept.loose_ordered t s u z)
          ∙ loose_choice ((u == t) && (z == s)) (get holder_cmp ls (u, z)) (get holder_cmp ps (u, z)) (kept.loosely u z)
          ∙ sym (ap is_loose_pair (get_gone ps kept.ordered t s u z));
      few = λ u z has. kept.few u z (some_left ((u == t) && (z == s)) (get holder_cmp ps (u, z)) (sym (ap is_some (get_gone ps kept.ordered t s u z)) ∙ has));
    }
      where
        by_choice : (b : Bool) (o : Option (Unit {0})) (p : Option (LockMode × Bool)) → is_some o ≡ is_some p → is_some (cond b None o) ≡ is_some (cond b None p)
        by_choice b o p h3 = search arith

        loose_choice : (b : Bool) (o : Option (Unit {0})) (p : Option (LockMode × Bool)) → is_some o ≡ is_loose_pair p → is_some (cond b None o) ≡ is_loose_pair (cond b None p)
        loose_choice b o p h3 = search arith

        some_left : (b : Bool) (p : Option (LockMode × Bool)) → is_some (cond b None p) ≡ true → is_some p ≡ true
        some_left b p h2 = search (false≢true, arith)

    pub is_gone : locks_of (remove holder_cmp ps (t, s)) ≡ without t s (locks_of ps)
    is_gone = same_locks (locks_of (remove holder_cmp ps (t, s))) (without t s (locks_of ps))
        (rise-kept (remove holder_cmp ps (t, s)) (IsOrdered-remove holder_total ps (t, s) kept.ordered))
        (rise_filter (λ l. not (is_own t s l)) (locks_of ps) (rise-kept ps kept.ordered))
        (λ u z. lock_at-kept (remove holder_cmp ps (t, s)) u z ∙ ap (option_map (lock_with u z)) (get_gone ps kept.ordered t s u z) ∙ by u z ((u == t) && (z == s)) refl)
      where
        not_same : (u z : ℕ) → ((u == t) && (z == s)) ≡ true → (l : Lock) → is_own u z l ≡ true → not (is_own t s l) ≡ false
        not_same u z e l own = grind (arith, nat_tests)

        not_other : (u z : ℕ) → ((u == t) && (z == s)) ≡ false → (l : Lock) → is_own u z l ≡ true → not (is_own t s l) ≡ true
        not_other u z e l own = grind (arith, nat_tests)

        by : (u z : ℕ) (b : Bool) → ((u == t) && (z == s)) ≡ b → option_map (lock_with u z) (cond b None (get holder_cmp ps (u, z))) ≡ lock_at u z (without t s (locks_of ps))
        by u z b h3 = search (find_filter_none, not_same, lock_at-kept, find_filter_same, not_other, arith)

  -- ---- what may be left out

  -- keys that are the same serve as well
  kept_by : (hs' ls' : List Holder) → IsOrdered holder_cmp hs' → IsOrdered holder_cmp ls'
      → ((z u : ℕ) → is_some (get holder_cmp hs' (z, u)) ≡ is_some (get holder_cmp hs (z, u)))
      → ((u z : ℕ) → is_some (get holder_cmp ls' (u, z)) ≡ is_some (get holder_cmp ls (u, z))) → AreKept ps hs' ls'
  kept_by hs' ls' ordered ordered' held loosely = search arith

  same_keys : (a b z u : ℕ) → ((z == a) && (u == b)) ≡ true → (z ≡ a) × (u ≡ b)
  same_keys a b z u e = (grind (arith, nat_tests), grind (arith, nat_tests))

  -- to put a key that is there changes no key
  put_again : (os : List Holder) (a b : ℕ) → is_some (get holder_cmp os (a, b)) ≡ true → (z u : ℕ) → is_some (get holder_cmp (insert holder_cmp os (a, b) tt) (z, u)) ≡ is_some (get holder_cmp os (z, u))
  put_again os a b has z u = search (get_put, same_keys, arith)

  -- to take out a key that is not there changes none
  gone_again : (os : List Holder) → IsOrdered holder_cmp os → (a b : ℕ) → is_some (get holder_cmp os (a, b)) ≡ false → (z u : ℕ) → is_some (get holder_cmp (remove holder_cmp os (a, b)) (z, u)) ≡ is_some (get holder_cmp os (z, u))
  gone_again os ordered a b has z u = search (get_gone, same_keys, arith)

  -- who holds a lock that is there is put once more
  pub kept_told : (t s : ℕ) → is_some (get holder_cmp hs (s, t)) ≡ true → AreKept ps (insert holder_cmp hs (s, t) tt) ls
  kept_told t s has = kept_by (insert holder_cmp hs (s, t) tt) ls (IsOrdered-insert holder_total hs (s, t) tt kept.holders_ordered) kept.loose_ordered (put_again hs s t has) (λ u z. refl)

  -- ---- what is asked

  not_some : {X : Type 0} (o : Option X) → is_some o ≡ false → o ≡ None
  not_some o h1 = search arith

  pub none_kept : (t s : ℕ) → get holder_cmp ps (t, s) ≡ None → lock_at t s (locks_of ps) ≡ None
  none_kept t s none = lock_at-kept ps t s ∙ ap (option_map (lock_with t s)) none

  pub none_held : (t s : ℕ) → get holder_cmp hs (s, t) ≡ None → lock_at t s (locks_of ps) ≡ None
  none_held t s none = none_kept t s (not_some (get holder_cmp ps (t, s)) (sym (kept.held t s) ∙ ap is_some none))

  pub loose_listed : (t s : ℕ) → is_loose (lock_at t s (locks_of ps)) ≡ is_some (get holder_cmp ls (t, s))
  loose_listed t s = loose-kept ps t s ∙ sym (kept.loosely t s)

  pub holders_numbered : holding.AreNumbered hs
  holders_numbered t s has = (kept.few t s (sym (kept.held t s) ∙ has)).0

-- ---- what is left out

module _ (ps : List Kept) (hs ls : List Holder) (kept : AreKept ps hs ls) (t s : ℕ) where
  -- of a lock that is there: who holds it is listed
  pub kept_ready : (value : LockMode × Bool) → is_some (get holder_cmp ps (t, s)) ≡ true → value.1 ≡ true → (t < 2 ^ 64) → (s < 2 ^ 64) → AreKept (insert holder_cmp ps (t, s) value) hs (remove holder_cmp ls (t, s))
  kept_ready value has tight few_t few_s =
      let all = kept_tight ps hs ls kept t s value tight few_t few_s in
      kept_by (insert holder_cmp ps (t, s) value) (insert holder_cmp hs (s, t) tt) (remove holder_cmp ls (t, s)) all hs (remove holder_cmp ls (t, s)) kept.holders_ordered all.loose_ordered
      (λ z u. sym (put_again ps hs ls kept hs s t (kept.held t s ∙ has) z u)) (λ u z. refl)

  -- a lock goes that is not among those that are not prepared
  pub kept_less : is_loose_pair (get holder_cmp ps (t, s)) ≡ false → AreKept (remove holder_cmp ps (t, s)) (remove holder_cmp hs (s, t)) ls
  kept_less tight =
      let all = kept_gone ps hs ls kept t s in
      kept_by (remove holder_cmp ps (t, s)) (remove holder_cmp hs (s, t)) (remove holder_cmp ls (t, s)) all (remove holder_cmp hs (s, t)) ls all.holders_ordered kept.loose_ordered
      (λ z u. refl) (λ u z. sym (gone_again ps hs ls kept ls kept.loose_ordered t s (kept.loosely t s ∙ tight) u z))

  -- a lock that is listed is kept
  pub kept_there : (own : Lock) → lock_at t s (locks_of ps) ≡ Some own → is_some (get holder_cmp ps (t, s)) ≡ true
  kept_there own is = sym (some_mapped t s (get holder_cmp ps (t, s))) ∙ ap is_some (sym (lock_at-kept ps t s) ∙ is)

  -- where nobody is told, there is none
  pub none_told : is_some (get holder_cmp hs (s, t)) ≡ false → lock_at t s (locks_of ps) ≡ None
  none_told none = none_held ps hs ls kept t s (not_some ps hs ls kept (get holder_cmp hs (s, t)) none)

-- a map with no first pair has none
pub none_first : {V : Type 0} (ps : List ((ℕ × ℕ) × V)) → first_from holder_cmp (0, 0) ps ≡ None → ps ≡ []
none_first [] none = refl
none_first (p ∷ ps) none = search (none-some, nat_tests, arith)

pub none_of : (answer : Bool) (ps : List Kept) → (answer ≡ true → ps ≡ []) → (ps ≡ [] → answer ≡ true) → answer ≡ are_none (locks_of ps)
none_of true [] empty none = refl
none_of true (p ∷ ps) empty none = let no = empty refl in cc
none_of false [] empty none = none refl
none_of false (p ∷ ps) empty none = refl
