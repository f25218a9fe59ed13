-- Who holds locks on a suite, in the order of suites and, on one suite, of transactions.
use Rattle.std.specs.Prelude.{◌≡◌, ℕ, ◌<◌, ◌^◌, ◌==◌, ◌&&◌, not, Bool, true, IsTrue, List, Option, Some, None, is_some, if◌then◌else◌}
use Rattle.std.specs.declared.cmp.Ordering.{Ordering}
use Rattle.std.specs.Ordering.{nat_cmp, ordering_then}
use Rattle.sorted_map.specs.SortedMap.{IsOrdered, get}
use Rattle.rep_core.specs.declared.lock.Lock.{Lock}
use Rattle.rep_core.specs.Consistency.{IsAlone}
use Rattle.rep_core.specs.Locks.{rise, has_lock}

-- a suite, and a transaction that holds a lock on it
abbrev pub Holder : Type 0
Holder = (ℕ × ℕ) × Unit {0}

abbrev pub holder_cmp : ℕ × ℕ → ℕ × ℕ → Ordering
holder_cmp a b = ordering_then (nat_cmp a.0 b.0) (nat_cmp a.1 b.1)

-- these hold the locks, of which an exclusive one stands alone on its suite
pub record AreHeld (locks : List Lock) (holders : List Holder) : Type 0 where
  pub rising : IsTrue (rise locks)
  pub alone : IsAlone locks
  pub ordered : IsOrdered holder_cmp holders
  pub same : (t suite : ℕ) → is_some (get holder_cmp holders (suite, t)) ≡ has_lock t suite locks

-- the transactions have numbers of 64 bits
abbrev pub AreNumbered : List Holder → Type 0
AreNumbered holders = (t suite : ℕ) → is_some (get holder_cmp holders (suite, t)) ≡ true → t < 2 ^ 64

-- another transaction on the suite
abbrev pub is_other : ℕ → ℕ → Holder → Bool
is_other t suite holder = (holder.0.0 == suite) && not (holder.0.1 == t)

abbrev pub told_other : ℕ → ℕ → Holder → Option ℕ
told_other t suite holder = if is_other t suite holder then Some holder.0.1 else None

-- the one, where it is another on the suite
abbrev pub other_in : ℕ → ℕ → Option Holder → Option ℕ
other_in t suite None = None
other_in t suite (Some holder) = told_other t suite holder

-- the first, or the next where the first is the transaction itself
abbrev pub first_or_next : ℕ → ℕ → Holder → Option Holder → Option ℕ
first_or_next t suite first next = if (first.0.0 == suite) && (first.0.1 == t) then other_in t suite next else told_other t suite first

abbrev pub of_first : ℕ → ℕ → Option Holder → Option Holder → Option ℕ
of_first t suite None next = None
of_first t suite (Some first) next = first_or_next t suite first next
