-- Locks, in the order of their transactions and, in one transaction, of their suites. A transaction has at most one lock on a suite.
use Rattle.std.specs.Prelude.{ℕ, ◌==◌, nat_lt, Bool, true, false, ◌&&◌, ◌||◌, not, if◌then◌else◌, List, [], ◌∷◌, ◌++◌, map, filter, find, Option}
use Rattle.std.specs.List.{list_any, list_all}
use Rattle.suite_prefix.specs.declared.lock_mode.LockMode.{LockMode}
use Rattle.suite_prefix.specs.LockModes.{is_exclusive, serves, stronger}
use Rattle.rep_core.specs.declared.lock.Lock.{Lock}
use Rattle.rep_core.specs.declared.request.Part.{Part}

-- the transaction's own lock on the suite
abbrev pub is_own : ℕ → ℕ → Lock → Bool
is_own t suite lock = (lock.t == t) && (lock.suite == suite)

-- its lock there, where it has one
abbrev pub lock_at : ℕ → ℕ → List Lock → Option Lock
lock_at t suite locks = find (is_own t suite) locks

-- another transaction's lock on the suite, where one of the two modes is exclusive
abbrev pub conflicts : ℕ → ℕ → LockMode → Lock → Bool
conflicts t suite mode lock = (lock.suite == suite) && not (lock.t == t) && (is_exclusive mode || is_exclusive lock.mode)

-- the lock of the least transaction that stands in the way of a lock in this mode
abbrev pub in_the_way : ℕ → ℕ → LockMode → List Lock → Option Lock
in_the_way t suite mode locks = find (conflicts t suite mode) locks

abbrev pub has_lock : ℕ → ℕ → List Lock → Bool
has_lock t suite locks = list_any (is_own t suite) locks

abbrev pub has_prepared : ℕ → List Lock → Bool
has_prepared t locks = list_any (λ lock. (lock.t == t) && lock.prepared) locks

-- the transaction has a lock on the part's suite, in the part's mode or a stronger one
abbrev pub has_lock_for : ℕ → List Lock → Part → Bool
has_lock_for t locks part = list_any (λ lock. is_own t part.suite lock && serves lock.mode part.mode) locks

-- ---- changes

-- the order of locks: by transaction, and in one transaction by suite
abbrev pub before : Lock → Lock → Bool
before a b = nat_lt a.t b.t || ((a.t == b.t) && nat_lt a.suite b.suite)

-- whether locks rise: each stands before all that follow it
abbrev pub rise : List Lock → Bool
rise [] = true
rise (lock ∷ locks) = list_all (before lock) locks && rise locks

-- the locks with a new one: the locks before it, then it, then the others
abbrev pub with_lock : Lock → List Lock → List Lock
with_lock lock locks = filter (λ other. before other lock) locks ++ lock ∷ filter (λ other. not (before other lock)) locks

-- the locks with the transaction's own one in the stronger of its mode and this one
abbrev pub raised_lock : ℕ → ℕ → LockMode → Lock → Lock
raised_lock t suite mode lock = record lock { mode = if is_own t suite lock then stronger lock.mode mode else lock.mode }

abbrev pub raised : ℕ → ℕ → LockMode → List Lock → List Lock
raised t suite mode locks = map (raised_lock t suite mode) locks

-- the locks once the transaction has one on the suite in this mode or a stronger one
abbrev pub locked : ℕ → ℕ → LockMode → List Lock → List Lock
locked t suite mode locks =
    if has_lock t suite locks
    then raised t suite mode locks
    else with_lock (record { t = t; suite = suite; mode = mode; prepared = false }) locks

-- the locks once those of the transaction on the parts' suites are prepared
abbrev pub prepared_lock : ℕ → List Part → Lock → Lock
prepared_lock t parts lock = record lock { prepared = lock.prepared || ((lock.t == t) && list_any (λ part. part.suite == lock.suite) parts) }

abbrev pub with_prepared : ℕ → List Part → List Lock → List Lock
with_prepared t parts locks = map (prepared_lock t parts) locks

-- the locks of other transactions
abbrev pub released : ℕ → List Lock → List Lock
released t locks = filter (λ lock. not (lock.t == t)) locks

-- the locks without the transaction's own one on the suite, unless it is prepared
abbrev pub broken : ℕ → ℕ → List Lock → List Lock
broken t suite locks = filter (λ lock. not (is_own t suite lock && not lock.prepared)) locks

-- the locks that a crash leaves
abbrev pub prepared_locks : List Lock → List Lock
prepared_locks locks = filter (λ lock. lock.prepared) locks
