-- The servers that hold locks, suite by suite.
use Rattle.txn_core.proofs.Vocabulary.{◌≡◌, ℕ, ◌||◌, nat_cmp, Suites, has_locks}
use Rattle.std.specs.FinSet.{FinSet, contains}

-- a set has those that hold a lock, but for the suites that are left
abbrev pub HasLocked : Suites → Suites → FinSet nat_cmp → Type 0
HasLocked suites left locked = (server : ℕ) → (contains locked server || has_locks left server) ≡ has_locks suites server
