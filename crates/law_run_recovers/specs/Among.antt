-- What is promised to a transaction in whose way nothing comes or goes: locks that others left stay as they are. It is told as at its begin; and it tells of a near server alone, and leaves
-- no lock.
use Rattle.std.specs.Prelude.{◌++◌, ◌||◌, ◌∷◌, ◌≡◌, Bool, Contains, List, Some, false, true, ℕ}
use Rattle.acl_core.specs.Identity.{Identity}
use Rattle.suite_prefix.specs.SettingsRules.{Opening}
use Rattle.suite_prefix.specs.declared.lock_mode.LockMode.{LockMode}
use Rattle.file_ops.specs.declared.operation.Op.{Op}
use Rattle.txn_core.specs.declared.job.Job.TheVariants.{Transaction}
use Rattle.run_core.specs.Runs.{run}
use Rattle.run_core.specs.Worlds.{Actor, World, actor_at}
use Rattle.run_core.specs.declared.done.EndedJob.{EndedJob}
use Rattle.run_core.specs.declared.event.Event.{Event}
use Rattle.run_core.specs.declared.event.Event.TheVariants.{Begin}
use Rattle.law_headline.specs.Premises.{CanBe}
use Rattle.law_run_alone.specs.Alone.{begins_job}
use Rattle.law_run_recovers.specs.Standing.{is_up, locks_at}
use Rattle.law_run_recovers.specs.Ways.{asks_for, way_at}
use Rattle.law_run_recovers.specs.Going.{hinders_itself, is_running, robs, world_after}
use Rattle.law_run_recovers.specs.Ends.{Ended, EndsByOpenVotes, EndsThen}
use Rattle.law_run_recovers.specs.Told.{ToldAsAtItsBegin}
use Rattle.law_run_recovers.specs.Sweeping.{has_any}
use Rattle.law_run_recovers.specs.Unmet.{AreNear, GoesUnmet}

-- ---- the premise

-- near servers stand to it as they did
pub record StandsStill (first world : World) (t : ℕ) (asked : List (ℕ × LockMode)) (near : ℕ → Bool) : Type 0 where
  pub up : (server : ℕ) → near server ≡ true → is_up world server ≡ is_up first server
  pub way : (server : ℕ) (one : ℕ × LockMode) → near server ≡ true → Contains asked one → way_at world t one.0 one.1 server ≡ way_at first t one.0 one.1 server

module _ (given : Opening) (events later : List Event) (agent t : ℕ) (caller : Identity) (site : ℕ) (ops : List Op) where
  abbrev then : List Event → World
  then so_far = world_after given events agent caller site ops so_far

  -- From its begin until it ends no near server crashes or restarts, what is in its way at one stays, and nothing else comes in its way there; each step of
  -- it is served, and nobody else takes a lock of it, or has it recorded, before its end is fixed.
  pub record GoesAmongLocks (actor : Actor) : Type 0 where
    pub can : CanBe given (events ++ Begin agent (Transaction caller site ops) ∷ later)
    pub there : actor_at (run given events) agent ≡ Some actor
    pub begins : begins_job given (run given events) (Begin agent (Transaction caller site ops)) ≡ Some (t, Transaction caller site ops)
    pub near : ℕ → Bool
    pub are_near : AreNear given events t caller site ops actor.agent.cache near
    pub stays : (so_far rest : List Event) → later ≡ so_far ++ rest → is_running (then so_far) agent t ≡ true
        → StandsStill (run given events) (then so_far) t (asks_for given events t caller ops) near
    pub free_hand : (so_far rest : List Event) (event : Event) → later ≡ so_far ++ event ∷ rest → is_running (then so_far) agent t ≡ true
        → (hinders_itself given agent (then so_far) event || robs given agent t (then so_far) event) ≡ false

-- One that nobody meets goes among locks, none of which is in its way.
abbrev pub UnmetAreAmongLocks : Type 0
UnmetAreAmongLocks =
    (given : Opening) (events later : List Event) (agent t : ℕ) (caller : Identity) (site : ℕ) (ops : List Op) (actor : Actor)
    → GoesUnmet given events later agent t caller site ops actor → GoesAmongLocks given events later agent t caller site ops actor

-- One that goes among locks that stay is told so.
abbrev pub AmongLocksAreToldAsBegun : Type 0
AmongLocksAreToldAsBegun =
    (given : Opening) (events later : List Event) (agent t : ℕ) (caller : Identity) (site : ℕ) (ops : List Op) (actor : Actor)
    → GoesAmongLocks given events later agent t caller site ops actor → ToldAsAtItsBegin given events later agent t caller site ops actor

-- ---- how it ends

abbrev pub AmongLocksEndByVotesAt : Opening → List Event → Type 0
AmongLocksEndByVotesAt given events =
    (later : List Event) (agent t : ℕ) (caller : Identity) (site : ℕ) (ops : List Op) (actor : Actor)
    → (goes : GoesAmongLocks given events later agent t caller site ops actor)
    → (job : EndedJob) → EndsThen given events later agent t caller site ops job → EndsByOpenVotes given events t caller site ops actor.agent.cache goes.near job

-- And once it has ended no server has a lock of it, up or down.
abbrev pub AmongLocksLeaveNoLockAt : Opening → List Event → Type 0
AmongLocksLeaveNoLockAt given events =
    (later : List Event) (agent t : ℕ) (caller : Identity) (site : ℕ) (ops : List Op) (actor : Actor)
    → GoesAmongLocks given events later agent t caller site ops actor → Ended given events later agent t caller site ops
    → (server : ℕ) → has_any t (locks_at (run given (events ++ Begin agent (Transaction caller site ops) ∷ later)) server) ≡ false
