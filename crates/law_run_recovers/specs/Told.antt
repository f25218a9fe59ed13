-- What is promised to a transaction that is told what it would have been told as it began, and whose locks stay. Nothing is said of servers while it does not ask them, nor of what
-- others decide.
use Rattle.std.specs.List.{list_any}
use Rattle.std.specs.Prelude.{◌&&◌, ◌++◌, ◌==◌, ◌||◌, ◌∷◌, ◌≡◌, Bool, List, Option, Some, false, not, true, ℕ}
use Rattle.acl_core.specs.Identity.{Identity}
use Rattle.suite_prefix.specs.SettingsRules.{Opening}
use Rattle.suite_prefix.specs.declared.lock_mode.LockMode.{LockMode}
use Rattle.suite_prefix.specs.declared.lock_mode.LockMode.TheVariants.{Exclusive}
use Rattle.file_ops.specs.declared.operation.Op.{Op}
use Rattle.rep_core.specs.State.{State}
use Rattle.rep_core.specs.Store.{copy_of}
use Rattle.rep_core.specs.declared.lock.Lock.{Lock}
use Rattle.rep_core.specs.declared.request.Request.{Request}
use Rattle.txn_core.specs.Agents.{fixed_of, next_of}
use Rattle.txn_core.specs.declared.job.Job.TheVariants.{Transaction}
use Rattle.run_core.specs.Runs.{run}
use Rattle.run_core.specs.Worlds.{Actor, World, actor_at, server_at, step}
use Rattle.run_core.specs.declared.done.EndedJob.{EndedJob}
use Rattle.run_core.specs.declared.event.Event.{Event}
use Rattle.run_core.specs.declared.event.Event.TheVariants.{Begin, Crash, Step}
use Rattle.law_headline.specs.Premises.{CanBe}
use Rattle.law_run_alone.specs.Alone.{begins_job}
use Rattle.rep_core.specs.declared.request.Request.TheVariants as request
use Rattle.law_run_recovers.specs.Standing.{is_up}
use Rattle.law_run_recovers.specs.Ways.{is_open_at, way_at}
use Rattle.law_run_recovers.specs.Going.{hinders_itself, is_running, is_telling, of_up, robs, world_after}
use Rattle.law_run_recovers.specs.Ends.{EndsByOpenVotes, EndsThen}

-- ---- what it is told

-- what a server shows of a suite: the prefix, and the version of the content
abbrev pub shows_same : Option State → Option State → ℕ → Type 0
shows_same (Some st) (Some old) suite = ((copy_of st.store suite).prefix ≡ (copy_of old.store suite).prefix) × ((copy_of st.store suite).dver ≡ (copy_of old.store suite).dver)
shows_same found was suite = Unit {0}

-- What was in its way at a server is; and where nothing was, the server shows what it showed.
pub record SameWay (first world : World) (server t suite : ℕ) (mode : LockMode) : Type 0 where
  pub way : way_at world t suite mode server ≡ way_at first t suite mode server
  pub shown : is_open_at world t suite mode server ≡ true → shows_same (server_at world server) (server_at first server) suite

-- A Poll and an Upgrade are told as they would have been told at its begin.
abbrev pub told_as_first : World → World → ℕ → Request → Type 0
told_as_first first world server (request.Poll t suite mode) = SameWay first world server t suite mode
told_as_first first world server (request.Upgrade t suite) = SameWay first world server t suite Exclusive
told_as_first first world server other = Unit {0}

-- The server that it asks is up just where it was at its begin, and tells it the same.
pub record AsAtItsBegin (first world : World) (server : ℕ) (asked : Request) : Type 0 where
  pub up : is_up world server ≡ is_up first server
  pub told : told_as_first first world server asked

-- ---- what is taken of it

-- it goes down with an unprepared lock of a transaction
abbrev pub drops : ℕ → State → Request → Bool
drops t st request.Crash = list_any (λ (lock : Lock). (lock.t == t) && not lock.prepared) st.locks
drops t st other = false

-- a crash so robs it too, where it is not asked that servers stay up
abbrev pub bereaves : Opening → ℕ → ℕ → World → Event → Bool
bereaves given agent t world (Crash server) = not (is_telling world agent) && of_up (drops t) world (step (fixed_of given) world (Crash server)).done.served
bereaves given agent t world other = false

-- ---- the premise

module _ (given : Opening) (events later : List Event) (agent t : ℕ) (caller : Identity) (site : ℕ) (ops : List Op) where
  abbrev then : List Event → World
  then so_far = world_after given events agent caller site ops so_far

  -- Until its end is fixed each step of it is served, by a server that is up just where it was at its begin and that tells it the same; no event takes a
  -- lock of it, and none but its own has it recorded.
  pub record ToldAsAtItsBegin (actor : Actor) : Type 0 where
    pub can : CanBe given (events ++ Begin agent (Transaction caller site ops) ∷ later)
    pub there : actor_at (run given events) agent ≡ Some actor
    pub begins : begins_job given (run given events) (Begin agent (Transaction caller site ops)) ≡ Some (t, Transaction caller site ops)
    pub same : (so_far rest : List Event) (here : Actor) (asked : ℕ × Request) → later ≡ so_far ++ Step agent ∷ rest → is_running (then so_far) agent t ≡ true → is_telling (then so_far) agent ≡ false
        → actor_at (then so_far) agent ≡ Some here → next_of (fixed_of given) here.agent ≡ Some asked → AsAtItsBegin (run given events) (then so_far) asked.0 asked.1
    pub free_hand : (so_far rest : List Event) (event : Event) → later ≡ so_far ++ event ∷ rest → is_running (then so_far) agent t ≡ true → is_telling (then so_far) agent ≡ false
        → (hinders_itself given agent (then so_far) event || (robs given agent t (then so_far) event || bereaves given agent t (then so_far) event)) ≡ false

-- ---- how it ends

-- no server is left out
abbrev pub everywhere : ℕ → Bool
everywhere server = true

-- It ends as the votes say that were open to it as it began, or tells of a server, and whose lock was in its way there.
abbrev pub ToldEndByVotesAt : Opening → List Event → Type 0
ToldEndByVotesAt given events =
    (later : List Event) (agent t : ℕ) (caller : Identity) (site : ℕ) (ops : List Op) (actor : Actor)
    → ToldAsAtItsBegin given events later agent t caller site ops actor
    → (job : EndedJob) → EndsThen given events later agent t caller site ops job → EndsByOpenVotes given events t caller site ops actor.agent.cache everywhere job
