-- What a transaction demands of the servers that are up, where no lock is in its way at those: what it demands of the servers that are open to it, said of those that are up.
use Rattle.std.specs.List.{list_all, list_any}
use Rattle.std.specs.Prelude.{◌++◌, ◌==◌, ◌||◌, ◌≡◌, Bool, List, Option, find, length, map, not, true, ℕ}
use Rattle.acl_core.specs.Identity.{Identity}
use Rattle.vote_core.specs.Quorums.{Configuration, votes_in}
use Rattle.suite_prefix.specs.declared.copies.Prefix.{Prefix}
use Rattle.suite_prefix.specs.declared.lock_mode.LockMode.{LockMode}
use Rattle.file_ops.specs.Rows.{PlainTable, row_of}
use Rattle.file_ops.specs.declared.operation.Op.{Op}
use Rattle.rep_core.specs.State.{State}
use Rattle.weak_cache.specs.Entries.{Cache}
use Rattle.txn_core.specs.Doing.{Fixed}
use Rattle.run_core.specs.Worlds.{World}
use Rattle.law_run_recovers.specs.Standing.{is_up}
use Rattle.law_run_recovers.specs.Demands.{Demand, MayStartAll, all_met, demand_by, is_met, led_to_by, locks_asked, newer_by, votes_of_row, votes_set}

-- ---- which are up

-- some server is
abbrev pub some_up : World → Bool
some_up world = list_any (λ (st : State). st.up) world.servers

-- no server that is up has a lock; what those have that are down is in nobody's way
abbrev pub up_free : World → Bool
up_free world = list_all (λ (st : State). not st.up || (length st.locks == 0)) world.servers

-- ---- where a suite's votes are found

-- where all servers answer that are up
abbrev pub newer_from : Fixed → World → ℕ → Prefix → Option Prefix
newer_from fixed world suite prefix = newer_by fixed world (is_up world) suite prefix

abbrev pub led_to : Fixed → World → ℕ → Prefix → Prefix
led_to fixed world suite start = led_to_by fixed world (is_up world) suite start

-- ---- demands

abbrev pub demand : World → ℕ → LockMode → Configuration → Demand
demand world suite mode votes = demand_by (is_up world) suite mode votes

-- All that a transaction needs on a table, in its order, where each suite is looked for from some prefix on: first votes of each suite that it locks, by
-- the prefix at which it is found; then votes to write of each suite of which it sets votes, by those that it sets.
abbrev pub demands : Fixed → World → PlainTable → ℕ → Identity → List Op → (ℕ → Prefix) → List Demand
demands fixed world table t caller ops start =
    map (λ (one : ℕ × LockMode). demand world one.0 one.1 (led_to fixed world one.0 (start one.0)).votes) (locks_asked table t caller ops)
    ++ map (λ (one : ℕ × Configuration). record { suite = one.0; got = votes_in one.1.reps (is_up world); needed = one.1.w }) (votes_set table t caller ops)

-- the first of them that is not met
abbrev pub first_short : List Demand → Option Demand
first_short all = find (λ (one : Demand). not (is_met one)) all

abbrev pub demands_of_rows : Fixed → World → PlainTable → ℕ → Identity → List Op → List Demand
demands_of_rows fixed world table t caller ops =
    map (λ (one : ℕ × LockMode). demand world one.0 one.1 (votes_of_row fixed (row_of table.rows one.0))) (locks_asked table t caller ops)
    ++ map (λ (one : ℕ × Configuration). record { suite = one.0; got = votes_in one.1.reps (is_up world); needed = one.1.w }) (votes_set table t caller ops)

-- ---- from where

-- all demands are met, from wherever the suites may be looked for
abbrev pub VotesAreUp : Fixed → World → PlainTable → Cache → ℕ → ℕ → Identity → List Op → Type 0
VotesAreUp fixed world table cache t site caller ops = (start : ℕ → Prefix) → MayStartAll fixed cache site start → all_met (demands fixed world table t caller ops start) ≡ true
