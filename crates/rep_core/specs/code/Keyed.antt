-- Locks by their keys, which are a transaction and a suite, and the tables that stand beside them.
use Rattle.std.specs.Prelude.{◌≡◌, ℕ, ◌-◌, ◌<◌, ◌^◌, length, ◌==◌, ◌&&◌, not, nat_lt, Bool, true, false, IsTrue, List, [], ◌∷◌, ◌++◌, map, filter, find, Option, Some, None, is_some, cond, if◌then◌else◌}
use Rattle.sorted_map.specs.SortedMap.{IsOrdered, get}
use Rattle.suite_prefix.specs.declared.lock_mode.LockMode.{LockMode}
use Rattle.suite_prefix.specs.LockModes.{stronger}
use Rattle.rep_core.specs.declared.lock.Lock.{Lock}
use Rattle.rep_core.specs.Consistency.{IsAlone}
use Rattle.rep_core.specs.Locks.{rise, is_own, lock_at, has_lock, conflicts, prepared_locks}
use Rattle.rep_core.specs.code.Holders.{Holder, holder_cmp}

-- the key of a lock, with its mode and whether it is prepared
abbrev pub Kept : Type 0
Kept = (ℕ × ℕ) × (LockMode × Bool)

abbrev pub lock_with : ℕ → ℕ → LockMode × Bool → Lock
lock_with t suite kept = record { t = t; suite = suite; mode = kept.0; prepared = kept.1 }

abbrev pub lock_of : Kept → Lock
lock_of pair = lock_with pair.0.0 pair.0.1 pair.1

abbrev pub locks_of : List Kept → List Lock
locks_of pairs = map lock_of pairs

abbrev pub own_of : ℕ → Kept → Option Lock
own_of t pair = if pair.0.0 == t then Some (lock_of pair) else None

-- a lock that is not prepared
abbrev pub is_loose : Option Lock → Bool
is_loose None = false
is_loose (Some lock) = not lock.prepared

abbrev pub is_loose_pair : Option (LockMode × Bool) → Bool
is_loose_pair None = false
is_loose_pair (Some kept) = not kept.1

-- beside the locks stand who holds them, and those that are not prepared; the keys have numbers of 64 bits
pub record AreKept (pairs : List Kept) (holders loose : List Holder) : Type 0 where
  pub ordered : IsOrdered holder_cmp pairs
  pub holders_ordered : IsOrdered holder_cmp holders
  pub loose_ordered : IsOrdered holder_cmp loose
  pub held : (t suite : ℕ) → is_some (get holder_cmp holders (suite, t)) ≡ is_some (get holder_cmp pairs (t, suite))
  pub loosely : (t suite : ℕ) → is_some (get holder_cmp loose (t, suite)) ≡ is_loose_pair (get holder_cmp pairs (t, suite))
  pub few : (t suite : ℕ) → is_some (get holder_cmp pairs (t, suite)) ≡ true → (t < 2 ^ 64) × (suite < 2 ^ 64)

-- the locks' keys have numbers of 64 bits
abbrev pub AreNumbered : List Lock → Type 0
AreNumbered locks = (t suite : ℕ) → has_lock t suite locks ≡ true → (t < 2 ^ 64) × (suite < 2 ^ 64)

-- ---- what is asked

abbrev pub are_none : List Lock → Bool
are_none [] = true
are_none (lock ∷ locks) = false

-- the transaction's first lock on this suite or one above it
abbrev pub next_of : ℕ → ℕ → List Lock → Option Lock
next_of t from locks = find (λ lock. (lock.t == t) && not (nat_lt lock.suite from)) locks

-- the lock, where it stands in the way of a lock in this mode
abbrev pub if_conflict : ℕ → ℕ → LockMode → Option Lock → Option Lock
if_conflict t suite mode None = None
if_conflict t suite mode (Some lock) = if conflicts t suite mode lock then Some lock else None

-- a lock that is not prepared, or none where all are
abbrev pub IsFirstLoose : List Lock → Option (ℕ × ℕ) → Type 0
IsFirstLoose locks None = prepared_locks locks ≡ locks
IsFirstLoose locks (Some key) = is_loose (lock_at key.0 key.1 locks) ≡ true

-- ---- what is changed

-- in which mode a lock is once it is asked for in this mode, and whether it is prepared
abbrev pub stronger_than : Option Lock → LockMode → LockMode × Bool
stronger_than None mode = (mode, false)
stronger_than (Some lock) mode = (stronger lock.mode mode, lock.prepared)

-- a lock stands in the place of the transaction's own one on the suite, or beside the others
pub record IsPut (t suite : ℕ) (kept : LockMode × Bool) (old new : List Lock) : Type 0 where
  pub was_rising : IsTrue (rise old)
  pub rising : IsTrue (rise new)
  pub at : (u z : ℕ) → lock_at u z new ≡ cond ((u == t) && (z == suite)) (Some (lock_with t suite kept)) (lock_at u z old)

-- the locks without the transaction's one on the suite
abbrev pub without : ℕ → ℕ → List Lock → List Lock
without t suite locks = filter (λ lock. not (is_own t suite lock)) locks

-- the locks once the transaction's one on the suite is prepared
abbrev pub one_prepared : ℕ → ℕ → Lock → Lock
one_prepared t suite lock = record lock { prepared = if is_own t suite lock then true else lock.prepared }

abbrev pub with_one_prepared : ℕ → ℕ → List Lock → List Lock
with_one_prepared t suite locks = map (one_prepared t suite) locks

-- ---- few, or many

-- the locks stand in the vector, and one more may
abbrev pub are_few : List Lock → List Lock → Bool
are_few few many = are_none many && nat_lt (length few) 64

-- how many new ones there is room for: in the vector, or in blocks beside those of the vector
abbrev pub room_in : List Lock → ℕ → List Lock → ℕ → ℕ
room_in few free many room = if are_few few many then free else room - length few

-- they rise, an exclusive one stands alone, and they stand in the vector or in blocks
pub record AreTabled (few many : List Lock) : Type 0 where
  pub rising : IsTrue (rise (few ++ many))
  pub alone : IsAlone (few ++ many)
  pub apart : are_none many ≡ false → few ≡ []
