-- Which lock a transaction has on a suite after each change of the locks.
use Rattle.rep_core.proofs.Vocabulary.{◌≡◌, ℕ, Bool, true, false, cond, ◌⊎◌, List, [], ◌∷◌, Option, Some, None, refl, ap, ◌∙◌, arith, ◌==◌, ◌&&◌, ◌||◌, not, filter, find, option_map, list_any, list_all, and_parts, false≢true, nat_tests, LockMode}
use Rattle.rep_core.proofs.Vocabulary.{is_exclusive, stronger, Lock, Part, before, rise, is_own, lock_at, conflicts, in_the_way, has_lock, raised, with_lock, locked, prepared_lock, with_prepared, released, broken, prepared_locks}
use Rattle.rep_core.proofs.Members.{find_none}
use Rattle.rep_core.proofs.Alone.{own_is, no_conflict}
use Rattle.rep_core.proofs.Rising.{insert_at_place}
use Rattle.rep_core.proofs.Finding.{Once, find_some, any_find, find_map, find_filter_same, find_filter_none, find_insert_other, find_insert_new, if_passes, find_filter}

-- ---- a lock that is found

-- what is found is the transaction's own lock on the suite
pub lock_own : (t suite : ℕ) (ls : List Lock) (l : Lock) → lock_at t suite ls ≡ Some l → (l.t ≡ t) × (l.suite ≡ suite)
lock_own t suite ls l is = own_is t suite l (find_some (is_own t suite) ls l is).1

pub lock_there : (t suite : ℕ) (ls : List Lock) → has_lock t suite ls ≡ true → (l : Lock) × (lock_at t suite ls ≡ Some l)
lock_there t suite ls has = search (any_find, false≢true, arith)

pub lock_absent : (t suite : ℕ) (ls : List Lock) → has_lock t suite ls ≡ false → lock_at t suite ls ≡ None
lock_absent t suite ls none = search (any_find, false≢true, arith)

-- rising locks hold one of a transaction on a suite at most
pub one_each : (t suite : ℕ) (ls : List Lock) → rise ls ≡ true → Once (is_own t suite) ls
one_each t suite [] up = tt
one_each t suite (l ∷ ls) up =
    let parts = and_parts (list_all (before l) ls) (rise ls) up in
    (λ own. none_behind l ls own parts.0, one_each t suite ls parts.1)
  where
    apart : (l x : Lock) → is_own t suite l ≡ true → before l x ≡ true → is_own t suite x ≡ false
    apart l x own is = grind (arith, nat_tests)

    none_behind : (l : Lock) (xs : List Lock) → is_own t suite l ≡ true → list_all (before l) xs ≡ true → find (is_own t suite) xs ≡ None
    none_behind l [] own all = refl
    none_behind l (x ∷ xs) own all =
        let parts = and_parts (before l x) (list_all (before l) xs) all in
        ap (λ b. cond b (Some x) (find (is_own t suite) xs)) (apart l x own parts.0) ∙ none_behind l xs own parts.1

-- ---- a lock that is taken, or made stronger

abbrev pub new_lock : ℕ → ℕ → LockMode → Lock
new_lock t suite mode = record { t = t; suite = suite; mode = mode; prepared = false }

-- the transaction's lock once it has asked for one
abbrev pub taken : ℕ → ℕ → LockMode → Option Lock → Lock
taken t suite mode None = new_lock t suite mode
taken t suite mode (Some lock) = record lock { mode = stronger lock.mode mode }

own_new : (t s u z : ℕ) (m : LockMode) → is_own u z (new_lock t s m) ≡ ((u == t) && (z == s))
own_new t s u z m = grind (arith, nat_tests)

both_same : (u t z s : ℕ) → ((u == t) && (z == s)) ≡ true → (u ≡ t) × (z ≡ s)
both_same u t z s e = (grind (arith, nat_tests), grind (arith, nat_tests))

own_by : (t s u z : ℕ) (l : Lock) → (l.t ≡ u) × (l.suite ≡ z) → is_own t s l ≡ ((u == t) && (z == s))
own_by t s u z l own = let a = own.0 in let b = own.1 in grind (arith, nat_tests)

module _ (t s : ℕ) (m : LockMode) (ls : List Lock) (up : rise ls ≡ true) where
  at_new : (u z : ℕ) → lock_at t s ls ≡ None → lock_at u z (with_lock (new_lock t s m) ls) ≡ cond ((u == t) && (z == s)) (Some (new_lock t s m)) (lock_at u z ls)
  at_new u z none = search (insert_at_place, both_same, find_insert_new, own_new, find_insert_other, arith)

  at_raised : (u z : ℕ) (own : Lock) → lock_at t s ls ≡ Some own → lock_at u z (raised t s m ls) ≡ cond ((u == t) && (z == s)) (Some (record own { mode = stronger own.mode m })) (lock_at u z ls)
  at_raised u z own has = search (find_map, both_same, own_by, lock_own, arith)

  by_own : (u z : ℕ) (b : Bool) → has_lock t s ls ≡ b → (o : Option Lock) → lock_at t s ls ≡ o → lock_at u z (cond b (raised t s m ls) (with_lock (new_lock t s m) ls)) ≡ cond ((u == t) && (z == s)) (Some (taken t s m o)) (lock_at u z ls)
  by_own u z b h3 o h5 = search (at_raised, lock_there, at_new, lock_absent, arith)

  pub lock_at-locked : (u z : ℕ) → lock_at u z (locked t s m ls) ≡ cond ((u == t) && (z == s)) (Some (taken t s m (lock_at t s ls))) (lock_at u z ls)
  lock_at-locked u z = by_own u z (has_lock t s ls) refl (lock_at t s ls) refl

-- ---- locks that are prepared

abbrev pub ready : Lock → Lock
ready lock = record lock { prepared = true }

abbrev pub names : ℕ → List Part → Bool
names suite parts = list_any (λ part. part.suite == suite) parts

pub lock_at-prepared : (t : ℕ) (parts : List Part) (ls : List Lock) (u z : ℕ) → lock_at u z (with_prepared t parts ls) ≡ cond ((u == t) && names z parts) (option_map ready (lock_at u z ls)) (lock_at u z ls)
lock_at-prepared t parts ls u z = find_map (is_own u z) (prepared_lock t parts) (λ l. refl) ls ∙ by (lock_at u z ls) refl
  where
    none : (b : Bool) → None ≡ cond b (option_map ready None) None
    none b = search arith

    or_true : (p : Bool) → (p || true) ≡ true
    or_true p = search arith

    or_false : (p : Bool) → (p || false) ≡ p
    or_false p = search arith

    some : (l : Lock) (b : Bool) → Some (record l { prepared = l.prepared || b }) ≡ cond b (Some (ready l)) (Some l)
    some l b = search (or_true, or_false, arith)

    by : (o : Option Lock) → lock_at u z ls ≡ o → option_map (prepared_lock t parts) o ≡ cond ((u == t) && names z parts) (option_map ready o) o
    by None is = none ((u == t) && names z parts)
    by (Some l) is =
        let own = lock_own u z ls l is in
        (λ i. Some (record l { prepared = l.prepared || ((own.0 i == t) && names (own.1 i) parts) })) ∙ some l ((u == t) && names z parts)

-- ---- locks that go

own_other : (t u s : ℕ) (l : Lock) → is_own u s l ≡ true → (u == t) ≡ false → not (l.t == t) ≡ true
own_other t u s l a b = grind (arith, nat_tests)

own_same : (t u s : ℕ) (l : Lock) → is_own u s l ≡ true → (u == t) ≡ true → not (l.t == t) ≡ false
own_same t u s l a b = grind (arith, nat_tests)

pub lock_at-released : (t : ℕ) (ls : List Lock) (u z : ℕ) → lock_at u z (released t ls) ≡ cond (u == t) None (lock_at u z ls)
lock_at-released t ls u z = search (find_filter_none, own_same, find_filter_same, own_other, arith)

-- the lock, if it is prepared
abbrev pub if_prepared : Option Lock → Option Lock
if_prepared o = if_passes (λ lock. lock.prepared) o

pub lock_at-crashed : (ls : List Lock) → rise ls ≡ true → (u z : ℕ) → lock_at u z (prepared_locks ls) ≡ if_prepared (lock_at u z ls)
lock_at-crashed ls up u z = find_filter (is_own u z) (λ l. l.prepared) ls (one_each u z ls up)

broken_apart : (t s u z : ℕ) (l : Lock) → ((u == t) && (z == s)) ≡ false → is_own u z l ≡ true → not (is_own t s l && not l.prepared) ≡ true
broken_apart t s u z l apart own = grind (arith, nat_tests)

pub lock_at-broken : (t s : ℕ) (ls : List Lock) → rise ls ≡ true → (u z : ℕ) → lock_at u z (broken t s ls) ≡ cond ((u == t) && (z == s)) (if_prepared (lock_at u z ls)) (lock_at u z ls)
lock_at-broken t s ls up u z =
    let q : Lock → Bool = λ l. not (is_own t s l && not l.prepared) in
    elim ((u == t) && (z == s)) as (λ b. ((u == t) && (z == s)) ≡ b → lock_at u z (filter q ls) ≡ cond b (if_prepared (lock_at u z ls)) (lock_at u z ls)) [
      | true ↦ λ e. find_filter (is_own u z) q ls (one_each u z ls up) ∙ by e (lock_at u z ls) refl
      | false ↦ λ e. find_filter_same (is_own u z) q (λ l own. broken_apart t s u z l e own) ls
    ] refl
  where
    spared : (b : Bool) → not (true && not b) ≡ b
    spared b = search arith

    by : ((u == t) && (z == s)) ≡ true → (o : Option Lock) → lock_at u z ls ≡ o → if_passes (λ l. not (is_own t s l && not l.prepared)) o ≡ if_prepared o
    by h0 o h2 = search (own_by, lock_own, spared, arith)

-- ---- what stands in the way

-- where nothing stands in the way, each other lock on the suite goes with the mode
pub way_free : (t s : ℕ) (m : LockMode) (ls : List Lock) → in_the_way t s m ls ≡ None → (u : ℕ) (l : Lock) → lock_at u s ls ≡ Some l → (is_exclusive m ≡ true) ⊎ (is_exclusive l.mode ≡ true) → u ≡ t
way_free t s m ls none u l is strong = search (lock_own u s ls l is, find_none (conflicts t s m) ls l none (find_some (is_own u s) ls l is).0, find_some (is_own u s) ls l is, no_conflict, arith)
