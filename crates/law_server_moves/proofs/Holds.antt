-- The lock that the machine has of a transaction, after each change of a server's locks.
use Rattle.law_server_moves.proofs.Vocabulary.{◌≡◌, ℕ, Bool, true, false, cond, List, Option, Some, None, sym, ap, ◌∙◌, arith, ◌==◌, ◌&&◌, ◌||◌, not, option_map, nat_tests, LockMode, Exclusive, is_exclusive, stronger, Lock, Part, rise, lock_at}
use Rattle.law_server_moves.proofs.Vocabulary.{has_lock, with_prepared, released, broken, prepared_locks, lock_there, taken, ready, names, if_prepared, lock_at-locked, lock_at-prepared, lock_at-released, lock_at-crashed, lock_at-broken, Hold}
use Rattle.law_server_moves.proofs.Vocabulary.{raised_hold, prepared_hold, kept, hold_of, is_prepared, locked}

-- ---- tests

-- at its own suite, and at another
pub here : (u t z : ℕ) → ((u == t) && (z == z)) ≡ (u == t)
here u t z = grind (arith, nat_tests)

pub apart : (u t z s : ℕ) → (z == s) ≡ false → ((u == t) && (z == s)) ≡ false
apart u t z s e = grind (arith, nat_tests)

with_true : (a b : Bool) → b ≡ true → (a && b) ≡ a
with_true a b h2 = search arith

with_false : (a b : Bool) → b ≡ false → (a && b) ≡ false
with_false a b h2 = search arith

-- ---- a hold and its lock

pub hold_none : (o : Option Lock) → hold_of o ≡ None → o ≡ None
hold_none o h1 = search arith

pub hold_some : (o : Option Lock) (k : Hold) → hold_of o ≡ Some k → (l : Lock) × (o ≡ Some l) × (is_exclusive l.mode ≡ k.exclusive) × (l.prepared ≡ k.prepared)
hold_some o k h2 = search arith

hold_if : (b : Bool) (a o : Option Lock) → hold_of (cond b a o) ≡ cond b (hold_of a) (hold_of o)
hold_if b a o = search arith

-- ---- a lock that is taken

module _ (t z : ℕ) (m : LockMode) (ls : List Lock) (up : rise ls ≡ true) where
  pub hold_at-taken : (u : ℕ) (o : Option Lock) → lock_at t z ls ≡ o → hold_of (lock_at u z (locked t z m ls)) ≡ cond (u == t) (hold_of (Some (taken t z m o))) (hold_of (lock_at u z ls))
  hold_at-taken u o is = search (lock_at-locked, here, taken, hold_if, arith)

  -- a new one
  pub hold_at-new : (u : ℕ) → lock_at t z ls ≡ None → hold_of (lock_at u z (locked t z m ls)) ≡ cond (u == t) (Some (record { exclusive = is_exclusive m; prepared = false })) (hold_of (lock_at u z ls))
  hold_at-new u none = hold_at-taken u None none

  -- at another suite
  pub hold_at-elsewhere : (y u : ℕ) → (y == z) ≡ false → hold_of (lock_at u y (locked t z m ls)) ≡ hold_of (lock_at u y ls)
  hold_at-elsewhere y u other = search (lock_at-locked, taken, apart, arith)

always_exclusive : (m : LockMode) → is_exclusive (stronger m Exclusive) ≡ true
always_exclusive m = search arith

-- one that becomes exclusive
pub hold_at-raised : (t z : ℕ) (ls : List Lock) → rise ls ≡ true → (u : ℕ) → has_lock t z ls ≡ true → hold_of (lock_at u z (locked t z Exclusive ls)) ≡ cond (u == t) (raised_hold (hold_of (lock_at t z ls))) (hold_of (lock_at u z ls))
hold_at-raised t z ls up u has =
    let own = lock_there t z ls has in
    hold_at-taken t z Exclusive ls up u (Some own.0) own.1
    ∙ (λ k. cond (u == t) (Some (record { exclusive = always_exclusive own.0.mode k; prepared = own.0.prepared })) (hold_of (lock_at u z ls)))
    ∙ ap (λ o. cond (u == t) (raised_hold (hold_of o)) (hold_of (lock_at u z ls))) (sym own.1)

-- ---- locks that are prepared

hold_ready : (o : Option Lock) → hold_of (option_map ready o) ≡ prepared_hold (hold_of o)
hold_ready o = search arith

-- at a suite that the parts name
pub hold_at-prepared : (t : ℕ) (parts : List Part) (ls : List Lock) (u z : ℕ) → names z parts ≡ true → hold_of (lock_at u z (with_prepared t parts ls)) ≡ cond (u == t) (prepared_hold (hold_of (lock_at u z ls))) (hold_of (lock_at u z ls))
hold_at-prepared t parts ls u z named = search (lock_at-prepared, ready, with_true, names, hold_if, hold_ready, arith)

-- at another
pub hold_at-unnamed : (t : ℕ) (parts : List Part) (ls : List Lock) (u z : ℕ) → names z parts ≡ false → hold_of (lock_at u z (with_prepared t parts ls)) ≡ hold_of (lock_at u z ls)
hold_at-unnamed t parts ls u z unnamed = search (lock_at-prepared, ready, with_false, names, arith)

-- ---- locks that go

pub hold_at-released : (t : ℕ) (ls : List Lock) (u z : ℕ) → hold_of (lock_at u z (released t ls)) ≡ cond (u == t) None (hold_of (lock_at u z ls))
hold_at-released t ls u z = ap hold_of (lock_at-released t ls u z) ∙ hold_if (u == t) None (lock_at u z ls)

hold_if_prepared : (o : Option Lock) → hold_of (if_prepared o) ≡ kept (is_prepared (hold_of o)) (hold_of o)
hold_if_prepared o = search arith

pub hold_at-crashed : (ls : List Lock) → rise ls ≡ true → (u z : ℕ) → hold_of (lock_at u z (prepared_locks ls)) ≡ kept (is_prepared (hold_of (lock_at u z ls))) (hold_of (lock_at u z ls))
hold_at-crashed ls up u z = ap hold_of (lock_at-crashed ls up u z) ∙ hold_if_prepared (lock_at u z ls)

hold_broken : (b : Bool) (o : Option Lock) → hold_of (cond b (if_prepared o) o) ≡ kept (not b || is_prepared (hold_of o)) (hold_of o)
hold_broken b o = search arith

pub hold_at-broken : (t z : ℕ) (ls : List Lock) → rise ls ≡ true → (u : ℕ) → hold_of (lock_at u z (broken t z ls)) ≡ kept (not (u == t) || is_prepared (hold_of (lock_at u z ls))) (hold_of (lock_at u z ls))
hold_at-broken t z ls up u = search (lock_at-broken, if_prepared, here, hold_broken, arith)

-- at another suite
pub hold_at-unbroken : (t s : ℕ) (ls : List Lock) → rise ls ≡ true → (u z : ℕ) → (z == s) ≡ false → hold_of (lock_at u z (broken t s ls)) ≡ hold_of (lock_at u z ls)
hold_at-unbroken t s ls up u z other = search (lock_at-broken, if_prepared, apart, arith)
