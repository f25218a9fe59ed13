-- What a transaction is to be left alone by, and no more, for it to be met by nobody.
use Rattle.std.specs.Prelude.{◌++◌, ◌||◌, ◌∷◌, ◌≡◌, Bool, Contains, List, Some, false, true, ℕ}
use Rattle.acl_core.specs.Identity.{Identity}
use Rattle.vote_core.specs.Quorums.{Configuration}
use Rattle.suite_prefix.specs.SettingsRules.{Opening}
use Rattle.suite_prefix.specs.declared.copies.Prefix.{Prefix}
use Rattle.suite_prefix.specs.declared.lock_mode.LockMode.{LockMode}
use Rattle.file_ops.specs.declared.operation.Op.{Op}
use Rattle.weak_cache.specs.Cache.{hint}
use Rattle.weak_cache.specs.Entries.{Cache}
use Rattle.txn_core.specs.Agents.{fixed_of}
use Rattle.txn_core.specs.Doing.{home_of}
use Rattle.txn_core.specs.Writing.{has_vote}
use Rattle.txn_core.specs.declared.job.Job.TheVariants.{Transaction}
use Rattle.run_core.specs.Runs.{run}
use Rattle.run_core.specs.TableOfRun.{table_of}
use Rattle.run_core.specs.Worlds.{Actor, World, actor_at}
use Rattle.run_core.specs.declared.event.Event.{Event}
use Rattle.run_core.specs.declared.event.Event.TheVariants.{Begin}
use Rattle.law_headline.specs.Premises.{CanBe}
use Rattle.law_run_alone.specs.Alone.{begins_job}
use Rattle.law_run_recovers.specs.Standing.{is_up, shown_at}
use Rattle.law_run_recovers.specs.Demands.{votes_set}
use Rattle.law_run_recovers.specs.Ways.{asks_for, in_its_way}
use Rattle.law_run_recovers.specs.Going.{hinders_itself, is_running, robs, world_after}

-- ---- near servers

-- The servers that it may ask are near to it: its home; those that have a vote by the opening votes, by the site's hint of a suite that it asks for, or by
-- the votes that it sets; and those that have one by what a near server that is up shows of such a suite. Any set that is so closed will do.
pub record AreNear (given : Opening) (events : List Event) (t : ℕ) (caller : Identity) (site : ℕ) (ops : List Op) (cache : Cache) (near : ℕ → Bool) : Type 0 where
  pub home : near (home_of (fixed_of given).service t) ≡ true
  pub first : (server : ℕ) → has_vote given.c0 server ≡ true → near server ≡ true
  pub hints : (one : ℕ × LockMode) (prefix : Prefix) (server : ℕ) → Contains (asks_for given events t caller ops) one → hint cache site one.0 ≡ Some prefix
      → has_vote prefix.votes server ≡ true → near server ≡ true
  pub shown : (one : ℕ × LockMode) (by server : ℕ) → Contains (asks_for given events t caller ops) one → near by ≡ true → is_up (run given events) by ≡ true
      → has_vote (shown_at (fixed_of given) (run given events) one.0 by).votes server ≡ true → near server ≡ true
  pub set : (one : ℕ × Configuration) (server : ℕ) → Contains (votes_set (table_of given events) t caller ops) one → has_vote one.1 server ≡ true → near server ≡ true

-- ---- how they stand

-- nothing is in its way, and the servers are up that were
pub record StandsOpen (first world : World) (t : ℕ) (asked : List (ℕ × LockMode)) (near : ℕ → Bool) : Type 0 where
  pub up : (server : ℕ) → near server ≡ true → is_up world server ≡ is_up first server
  pub way : (server : ℕ) (one : ℕ × LockMode) → near server ≡ true → Contains asked one → in_its_way world t one.0 one.1 server ≡ false

-- ---- the premise

module _ (given : Opening) (events later : List Event) (agent t : ℕ) (caller : Identity) (site : ℕ) (ops : List Op) where
  abbrev then : List Event → World
  then so_far = world_after given events agent caller site ops so_far

  -- From its begin until it ends no near server crashes or restarts, none that is up ever has another's lock that conflicts with a mode that it asks
  -- for, each step of it is served, and nobody else takes a lock of it, or has it recorded, before its end is fixed.
  pub record GoesUnmet (actor : Actor) : Type 0 where
    pub can : CanBe given (events ++ Begin agent (Transaction caller site ops) ∷ later)
    pub there : actor_at (run given events) agent ≡ Some actor
    pub begins : begins_job given (run given events) (Begin agent (Transaction caller site ops)) ≡ Some (t, Transaction caller site ops)
    pub near : ℕ → Bool
    pub are_near : AreNear given events t caller site ops actor.agent.cache near
    pub unmet : (so_far rest : List Event) → later ≡ so_far ++ rest → is_running (then so_far) agent t ≡ true
        → StandsOpen (run given events) (then so_far) t (asks_for given events t caller ops) near
    pub free_hand : (so_far rest : List Event) (event : Event) → later ≡ so_far ++ event ∷ rest → is_running (then so_far) agent t ≡ true
        → (hinders_itself given agent (then so_far) event || robs given agent t (then so_far) event) ≡ false
