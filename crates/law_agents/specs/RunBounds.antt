-- The own steps of the jobs that end in a run: the count that an outcome tells keeps to the bounds.
use Rattle.std.specs.Prelude.{◌≡◌, ℕ, ◌+◌, ◌*◌, ◌≤◌, ◌==◌, min, true, ◌&&◌, if◌then◌else◌, List, [], ◌∷◌, ◌++◌, length, Contains, is_some, Option, Some, None}
use Rattle.acl_core.specs.Identity.{Identity}
use Rattle.file_ops.specs.declared.operation.Op.{Op}
use Rattle.suite_prefix.specs.SettingsRules.{Opening}
use Rattle.rep_core.specs.declared.request.Request.{Request}
use Rattle.rep_core.specs.declared.stamped.Lack.TheVariants as lack
use Rattle.rep_core.specs.State.{State}
use Rattle.rep_core.specs.Store.{last_number}
use Rattle.txn_core.specs.declared.response.Response.{Response}
use Rattle.txn_core.specs.declared.response.Response.TheVariants.{Replied, Lacked}
use Rattle.txn_core.specs.declared.job.Job.{Job}
use Rattle.txn_core.specs.declared.job.Job.TheVariants.{Transaction, Sweep}
use Rattle.txn_core.specs.Doing.{Fixed}
use Rattle.txn_core.specs.Agents as agents
use Rattle.txn_core.specs.Agents.{Take, fixed_of, next_of, take, is_idle}
use Rattle.txn_core.specs.Laws.{Exchange, of_job, among, asks_only, names_only, listed}
use Rattle.run_core.specs.declared.event.Event.{Event}
use Rattle.run_core.specs.declared.event.Event.TheVariants.{Begin, Step, Crash, Return, Forget, Lack}
use Rattle.run_core.specs.declared.done.Served.{Served}
use Rattle.run_core.specs.declared.done.EndedJob.{EndedJob}
use Rattle.run_core.specs.Worlds.{World, Actor, server_at, actor_at, step}
use Rattle.run_core.specs.Runs.{run, done_in, outcomes}
use Rattle.law_agents.specs.Steps.{agent_after, VotesAreValid, is_known}

-- ---- what an agent is told in a run

abbrev pub asks_now : Fixed → Option Actor → Option (ℕ × Request)
asks_now fixed (Some actor) = next_of fixed actor.agent
asks_now fixed None = None

-- what comes of a request: the reply with which it was served, or that its server is full; nothing where there is no such server
abbrev pub told_by : Option State → Option Served → List agents.Event
told_by (Some st) (Some what) = Take (Replied what.reply.value) ∷ []
told_by (Some st) None = Take (Lacked lack.Full) ∷ []
told_by None what = []

abbrev pub told_of : World → Option (ℕ × Request) → Option Served → List agents.Event
told_of world (Some asked) what = told_by (server_at world asked.0) what
told_of world None what = []

-- in one event
abbrev pub told_at : Fixed → World → ℕ → Event → List agents.Event
told_at fixed world agent (Step number) =
    if number == agent then told_of world (asks_now fixed (actor_at world agent)) (step fixed world (Step number)).done.served else []
told_at fixed world agent (Lack number why) = if number == agent && is_some (asks_now fixed (actor_at world agent)) then Take (Lacked why) ∷ [] else []
told_at fixed world agent (Forget number site) = if number == agent then agents.Forget site ∷ [] else []
told_at fixed world agent (Begin number job) = []
told_at fixed world agent (Crash server) = []
told_at fixed world agent (Return server) = []

-- in these events, one after the other
abbrev pub told_in : Fixed → World → ℕ → List Event → List agents.Event
told_in fixed world agent [] = []
told_in fixed world agent (event ∷ events) = told_at fixed world agent event ++ told_in fixed (step fixed world event).world agent events

-- ---- how a job ends there

-- A job that ended: in one of the run's events its agent, which was idle and had this count, began it; from then on it was told in the run all that it
-- was told, and by the last of this it ended. So its exchanges are the run's own. It took as many steps as these, as far as the count goes; so few of a
-- transaction that asks n servers and names k suites, and of a sweep to which m locks were listed. Where votes are valid, it asks none but the servers
-- that there are and those that votes name.
pub record EndsInItsTime (given : Opening) (events : List Event) (outcome : EndedJob) : Type 0 where
  pub before : List Event
  pub job : Job
  pub between : List Event
  pub last : Event
  pub later : List Event
  pub split : events ≡ before ++ Begin outcome.agent job ∷ between ++ last ∷ later
  pub actor : Actor
  pub there : actor_at (run given before) outcome.agent ≡ Some actor
  pub idle : is_idle actor.agent.doing ≡ true
  pub agent : actor.agent.index ≡ outcome.agent
  pub count : actor.agent.count ≡ outcome.count
  pub told : List agents.Event
  pub heard : Response
  pub told_is : told_in (fixed_of given) (run given before) outcome.agent (Begin outcome.agent job ∷ between ++ last ∷ []) ≡ told ++ Take heard ∷ []
  pub ends : (take (fixed_of given) (agent_after (fixed_of given) actor.agent job told) heard).ending ≡ Some outcome.ending
  pub ended : (step (fixed_of given) (run given (before ++ Begin outcome.agent job ∷ between)) last).done.outcome ≡ Some outcome
  pub past : List Exchange
  pub past_is : past ≡ of_job (fixed_of given) actor.agent job (told ++ Take heard ∷ [])
  pub steps : outcome.steps ≡ min (length past) last_number
  pub transaction : (caller : Identity) (site : ℕ) (ops : List Op) (servers suites : List ℕ) → job ≡ Transaction caller site ops
      → asks_only servers past ≡ true → names_only suites past ≡ true
      → outcome.steps ≤ length suites * (2 * length servers + 1) + 2 * length servers + 1
  pub known : (servers : List ℕ) → VotesAreValid (fixed_of given) actor.agent past
      → ((server : ℕ) → is_known (fixed_of given) actor.agent past server ≡ true → among servers server ≡ true)
      → asks_only servers past ≡ true
  pub sweep : (server : ℕ) → job ≡ Sweep server → outcome.steps ≤ 1 + 2 * listed past

-- So it is of every job that ended in any run.
abbrev pub RunsEndInTime : Type 0
RunsEndInTime =
    (given : Opening) (events : List Event) (outcome : EndedJob) → Contains (outcomes (done_in given events)) outcome → EndsInItsTime given events outcome
