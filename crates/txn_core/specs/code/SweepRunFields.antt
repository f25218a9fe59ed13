-- The fields of `SweepRun` as contracts see them, and what they keep.
use Rattle.std.specs.Prelude.{◌≡◌, ◌+◌, ◌<◌, ◌^◌, ℕ, IsTrue, List, [], ◌∷◌, length, if◌then◌else◌, Option, Some, None}
use Rattle.rep_core.specs.declared.lock.Lock.{Lock}
use Rattle.rep_core.specs.Locks.{has_prepared}
use Rattle.txn_core.specs.declared.sweep_run.SweepRun.TheInside.{Inside}
use Rattle.txn_core.specs.declared.sweep_run.Counts.{Counts}
use Rattle.txn_core.specs.declared.sweep_run.Asking.{Asking}
use Rattle.txn_core.specs.declared.sweep_run.Asking.TheVariants as asking
use Rattle.txn_core.specs.Doing.{Sweeping, Listing, Resolving, Telling, Breaking, SweepRun, After, GoesOn, Ends}
use Rattle.txn_core.specs.declared.ending.Ending.{Ending}
use Rattle.txn_core.specs.code.Sorting.{in_order}
use Rattle.txn_core.specs.Sweeps.{others}

-- what is asked, with the locks that are left
abbrev pub sweeping_of : Asking → List Lock → Sweeping
sweeping_of asking.Locks locks = Listing
sweeping_of (asking.Resolve t) locks = Resolving t locks
sweeping_of (asking.Finish t verdict) locks = Telling t verdict locks
sweeping_of (asking.Break lock) locks = Breaking lock locks

abbrev pub round_of : Inside → SweepRun
round_of fields = record {
  server = fields.server;
  broken = fields.counts.broken;
  finished = fields.counts.finished;
  left = fields.counts.left;
  now = sweeping_of fields.asking fields.locks.items;
}

abbrev pub with_counts : Counts → SweepRun → SweepRun
with_counts counts sweep_run = record sweep_run { broken = counts.broken; finished = counts.finished; left = counts.left }

abbrev pub total : Counts → ℕ
total counts = counts.broken + counts.finished + counts.left

-- what was counted, what is asked and what is left are no more than a list can have
abbrev pub Fits : Asking → ℕ → Type 0
Fits asking.Locks counted = counted ≡ 0
Fits other counted = counted + 1 < 2 ^ 64

-- and what is left is in its order
pub record IsKept (fields : Inside) : Type 0 where
  pub counted : Fits fields.asking (total fields.counts + length fields.locks.items)
  pub order : IsTrue (in_order fields.locks.items)

-- the locks that are left
abbrev pub left_in : Sweeping → List Lock
left_in Listing = []
left_in (Resolving t left) = left
left_in (Telling t verdict left) = left
left_in (Breaking lock left) = left

-- what is asked of the first of these locks
abbrev pub first_of : List Lock → Option Sweeping
first_of [] = None
first_of (lock ∷ locks) = Some (if has_prepared lock.t (lock ∷ locks) then Resolving lock.t (others lock.t locks) else Breaking lock locks)

-- a sweep's run and an ending are what comes of a response
abbrev pub Comes : After SweepRun → Option Ending → SweepRun → Type 0
Comes (GoesOn sweep_run) ending new = (ending ≡ None) × (new ≡ sweep_run)
Comes (Ends how) ending new = ending ≡ Some how
