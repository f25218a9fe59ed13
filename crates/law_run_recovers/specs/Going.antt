-- Where a transaction is in its course, and what robs it there.
use Rattle.std.specs.List.{list_any}
use Rattle.std.specs.Prelude.{◌&&◌, ◌==◌, Bool, List, None, Option, Some, false, is_some, not, true, ℕ}
use Rattle.acl_core.specs.Identity.{Identity}
use Rattle.suite_prefix.specs.SettingsRules.{Opening}
use Rattle.file_ops.specs.declared.operation.Op.{Op}
use Rattle.rep_core.specs.Locks.{is_own}
use Rattle.rep_core.specs.State.{State, record_of}
use Rattle.rep_core.specs.declared.lock.Lock.{Lock}
use Rattle.rep_core.specs.declared.request.Request.{Request}
use Rattle.txn_core.specs.Agents.{fixed_of}
use Rattle.txn_core.specs.Doing.{Doing, Finishing, Phase, Running}
use Rattle.txn_core.specs.declared.job.Job.TheVariants.{Transaction}
use Rattle.run_core.specs.Runs.{after, run}
use Rattle.run_core.specs.Worlds.{Actor, World, actor_at, server_at, step}
use Rattle.run_core.specs.declared.done.Served.{Served}
use Rattle.run_core.specs.declared.event.Event.{Event}
use Rattle.run_core.specs.declared.event.Event.TheVariants.{Begin, Lack, Step}
use Rattle.rep_core.specs.declared.request.Request.TheVariants as request

-- ---- where it is

-- the agent runs this transaction
abbrev pub runs : ℕ → Option Doing → Bool
runs t (Some (Running txn_run)) = txn_run.task.t == t
runs t other = false

abbrev pub running_in : ℕ → Option Actor → Bool
running_in t (Some actor) = runs t actor.agent.doing
running_in t None = false

abbrev pub is_running : World → ℕ → ℕ → Bool
is_running world agent t = running_in t (actor_at world agent)

-- its end is fixed, and it tells it
abbrev pub is_told : Phase → Bool
is_told (Finishing servers v ended) = true
is_told other = false

abbrev pub tells : Option Doing → Bool
tells (Some (Running txn_run)) = is_told txn_run.phase
tells other = false

abbrev pub telling_in : Option Actor → Bool
telling_in (Some actor) = tells actor.agent.doing
telling_in None = false

abbrev pub is_telling : World → ℕ → Bool
is_telling world agent = telling_in (actor_at world agent)

-- the world as it began, and some events later
abbrev pub begun_world : Opening → List Event → ℕ → Identity → ℕ → List Op → World
begun_world given events agent caller site ops = (step (fixed_of given) (run given events) (Begin agent (Transaction caller site ops))).world

abbrev pub world_after : Opening → List Event → ℕ → Identity → ℕ → List Op → List Event → World
world_after given events agent caller site ops so_far = after (fixed_of given) (begun_world given events agent caller site ops) so_far

-- ---- what robs it

-- A request to a server that is up takes something of it: an unprepared lock is broken, a lock is released by a Finish, or it is recorded where it is not.
abbrev pub takes : ℕ → State → Request → Bool
takes t st (request.Break named suite) = (named == t) && list_any (λ (lock : Lock). is_own t suite lock && not lock.prepared) st.locks
takes t st (request.Finish named v) = (named == t) && list_any (λ (lock : Lock). lock.t == t) st.locks
takes t st (request.Resolve named) = (named == t) && not (is_some (record_of st t))
takes t st other = false

-- so it is of what was served, at a server that is up
abbrev pub up_and : (State → Request → Bool) → Request → Option State → Bool
up_and so asked (Some st) = st.up && so st asked
up_and so asked None = false

abbrev pub of_up : (State → Request → Bool) → World → Option Served → Bool
of_up so world None = false
of_up so world (Some served) = up_and so served.request.value (server_at world served.server)

-- Another agent's step that is served robs it, before its end is fixed: so only a sweep can.
abbrev pub robs : Opening → ℕ → ℕ → World → Event → Bool
robs given agent t world (Step other) = not (other == agent) && not (is_telling world agent) && of_up (takes t) world (step (fixed_of given) world (Step other)).done.served
robs given agent t world other = false

-- what hinders it among its own events: a step of it is not served, or it is told so
abbrev pub hinders_itself : Opening → ℕ → World → Event → Bool
hinders_itself given agent world (Step other) = (other == agent) && not (is_some (step (fixed_of given) world (Step other)).done.served)
hinders_itself given agent world (Lack other why) = other == agent
hinders_itself given agent world other = false
