-- The demands of a transaction by the servers that are open to it: up, and with nothing in its way in the mode that it wants. Where no lock is in its way
-- anywhere these are the demands by servers that are up.
use Rattle.std.specs.Prelude.{ℕ, ◌==◌, List, ◌++◌, map, find, Option, Some, None}
use Rattle.acl_core.specs.Identity.{Identity}
use Rattle.vote_core.specs.Quorums.{Configuration}
use Rattle.suite_prefix.specs.declared.copies.Prefix.{Prefix}
use Rattle.suite_prefix.specs.declared.lock_mode.LockMode.{LockMode}
use Rattle.suite_prefix.specs.declared.lock_mode.LockMode.TheVariants.{Shared, Exclusive}
use Rattle.file_ops.specs.declared.operation.Op.{Op}
use Rattle.file_ops.specs.Rows.{PlainTable, row_of}
use Rattle.txn_core.specs.Doing.{Fixed}
use Rattle.run_core.specs.Worlds.{World}
use Rattle.law_run_recovers.specs.Demands.{Demand, demand_by, led_to_by, locks_asked, votes_set, votes_of_row}
use Rattle.law_run_recovers.specs.Ways.{is_open_at}

-- ---- what it wants

-- a lock on a suite in a mode, by these votes
pub record Want : Type 0 where
  pub suite : ℕ
  pub mode : LockMode
  pub votes : Configuration

-- so many votes are open to it, and so many needed
abbrev pub open_demand : World → ℕ → Want → Demand
open_demand world t want = demand_by (is_open_at world t want.suite want.mode) want.suite want.mode want.votes

-- The mode in which a suite is asked for first: in that mode its votes are found.
abbrev pub mode_or : LockMode → Option (ℕ × LockMode) → LockMode
mode_or other (Some one) = one.1
mode_or other None = other

abbrev pub first_mode : List (ℕ × LockMode) → ℕ → LockMode
first_mode asked suite = mode_or Shared (find (λ (one : ℕ × LockMode). one.0 == suite) asked)

-- All that a transaction wants on a table, in its order, as demands lists it; what it sets votes of, exclusive.
abbrev pub wants_by : List (ℕ × LockMode) → List (ℕ × Configuration) → (ℕ × LockMode → Configuration) → List Want
wants_by asked set votes =
    map (λ (one : ℕ × LockMode). record { suite = one.0; mode = one.1; votes = votes one }) asked
    ++ map (λ (one : ℕ × Configuration). record { suite = one.0; mode = Exclusive; votes = one.1 }) set

abbrev pub wants : Fixed → World → PlainTable → ℕ → Identity → List Op → (ℕ → Prefix) → List Want
wants fixed world table t caller ops start =
    let asked = locks_asked table t caller ops in
    wants_by asked (votes_set table t caller ops) (λ (one : ℕ × LockMode). (led_to_by fixed world (is_open_at world t one.0 (first_mode asked one.0)) one.0 (start one.0)).votes)

-- the same by the votes of the table's own rows
abbrev pub wants_of_rows : Fixed → PlainTable → ℕ → Identity → List Op → List Want
wants_of_rows fixed table t caller ops =
    wants_by (locks_asked table t caller ops) (votes_set table t caller ops) (λ (one : ℕ × LockMode). votes_of_row fixed (row_of table.rows one.0))

abbrev pub open_demands : World → ℕ → List Want → List Demand
open_demands world t all = map (open_demand world t) all
