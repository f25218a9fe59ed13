-- The numbers of transactions, and who asks in their names.
use Rattle.std.specs.Prelude.{◌≡◌, ℕ, ◌+◌, ◌*◌, ◌%◌, ◌/◌, ◌⊎◌, nat_eq, nat_lt, Bool, true, false, ◌&&◌, if◌then◌else◌, List, [], ◌∷◌, Option, Some, None}
use Rattle.std.specs.List.{IsDistinct, cons_option}
use Rattle.suite_prefix.specs.SettingsRules.{Opening, IsAccepted, max_agents}
use Rattle.rep_core.specs.declared.request.Request.{Request}
use Rattle.txn_core.specs.declared.job.Job.{Job}
use Rattle.txn_core.specs.Doing.{Fixed, Task, home_of}
use Rattle.txn_core.specs.Laws.{is_decide}
use Rattle.txn_core.specs.Agents.{Agent, fixed_of, next_of, is_idle, has_sense, max_jobs}
use Rattle.run_core.specs.declared.event.Event.{Event}
use Rattle.run_core.specs.declared.event.Event.TheVariants.{Begin}
use Rattle.run_core.specs.declared.done.EndedJob.{EndedJob}
use Rattle.run_core.specs.Worlds.{Actor, World, actor_at, opening, step}
use Rattle.run_core.specs.Runs.{run}
use Rattle.run_core.specs.Decisions.{task_of}
use Rattle.law_runs.specs.Naming.{names, may_sweep}

-- ---- numbers

-- the number of a job that ended, which is that of its transaction
abbrev pub number_of : EndedJob → ℕ
number_of job = max_agents * job.count + job.agent

-- whether the job of this number was begun: by its agent, the number's rest by 64
abbrev pub has_begun : Option Actor → ℕ → Bool
has_begun (Some actor) place = nat_lt place actor.agent.count
has_begun None place = false

abbrev pub was_begun : World → ℕ → Bool
was_begun world t = has_begun (actor_at world (t % max_agents)) (t / max_agents)

-- the number of the job that an event begins, if it begins one
abbrev pub begins_now : Fixed → ℕ → Job → Option Actor → Option ℕ
begins_now fixed number job (Some actor) =
    if is_idle actor.agent.doing && has_sense fixed job && nat_lt actor.agent.count max_jobs then Some (max_agents * actor.agent.count + number) else None
begins_now fixed number job None = None

abbrev pub begins_at : Opening → World → Event → Option ℕ
begins_at given world (Begin number job) = begins_now (fixed_of given) number job (actor_at world number)
begins_at given world event = None

-- the numbers of all jobs that were begun, in their order
abbrev pub begun_from : Opening → World → List Event → List ℕ
begun_from given world [] = []
begun_from given world (event ∷ events) = cons_option (begins_at given world event) (begun_from given (step (fixed_of given) world event).world events)

abbrev pub begun : Opening → List Event → List ℕ
begun given events = begun_from given (opening given) events

-- ---- who asks

-- Each number is begun once, and by the agent that is its rest by 64.
pub record IsBegunOnce (given : Opening) (events : List Event) : Type 0 where
  pub once : IsDistinct nat_eq (begun given events)
  pub by_its_agent : (agent t : ℕ) (job : Job) → begins_at given (run given events) (Begin agent job) ≡ Some t → t % max_agents ≡ agent

abbrev pub EachIsBegunOnce : Type 0
EachIsBegunOnce = (given : Opening) → IsAccepted given → (events : List Event) → IsBegunOnce given events

-- the agent asks in the name of its own transaction, the last that it began, and for a decision at its home
pub record AsksForItself (given : Opening) (number : ℕ) (agent : Agent) (server : ℕ) (asked : Request) : Type 0 where
  pub task : Task
  pub running : task_of agent.doing ≡ Some task
  pub last : task.t + max_agents ≡ max_agents * agent.count + number
  pub named : names task.t asked ≡ true
  pub at_home : is_decide asked ≡ true → server ≡ home_of (fixed_of given).service task.t

-- or it sweeps, and asks for locks, how a transaction ended, or to end it
pub record AsksToSweep (agent : Agent) (asked : Request) : Type 0 where
  pub no_task : task_of agent.doing ≡ None
  pub swept : may_sweep asked ≡ true

abbrev pub AgentsAskForThemselves : Type 0
AgentsAskForThemselves =
    (given : Opening) → IsAccepted given → (events : List Event) (number : ℕ) (actor : Actor) (server : ℕ) (asked : Request)
    → actor_at (run given events) number ≡ Some actor → next_of (fixed_of given) actor.agent ≡ Some (server, asked)
    → AsksForItself given number actor.agent server asked ⊎ AsksToSweep actor.agent asked
