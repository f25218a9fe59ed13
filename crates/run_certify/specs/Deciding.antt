-- What a step decides, as it shows: in what was served, and in the job that its agent began last.
use Rattle.std.specs.Prelude.{◌≡◌, ℕ, ◌+◌, ◌<◌, ◌%◌, length, List, slice_index_or, slice_set, Option, Some, None, Result}
use Rattle.suite_prefix.specs.SettingsRules.{Opening, max_agents}
use Rattle.file_ops.specs.declared.answer.Answer.{Answer}
use Rattle.file_ops.specs.declared.refusal.Refusal.{Refusal}
use Rattle.txn_core.specs.Doing.{Task}
use Rattle.txn_core.specs.declared.job.Job.{Job}
use Rattle.txn_core.specs.declared.job.Job.TheVariants.{Transaction, Sweep}
use Rattle.run_core.specs.declared.event.Event.{Event}
use Rattle.run_core.specs.declared.event.Event.TheVariants.{Begin}
use Rattle.run_core.specs.declared.done.Served.{Served}
use Rattle.run_core.specs.Decisions.{Decided, answer_in, task_of, to_decide}
use Rattle.run_core.specs.Runs.{run}
use Rattle.run_core.specs.Worlds.{Actor, World, actor_at}

-- ---- the job that each agent began last

abbrev pub job_at : List (Option Job) → ℕ → Option Job
job_at jobs agent = slice_index_or jobs agent None

abbrev pub jobs_after : List (Option Job) → Event → List (Option Job)
jobs_after jobs (Begin agent job) = slice_set jobs agent (Some job)
jobs_after jobs other = jobs

-- there is a place for the job that an event begins
abbrev pub HasPlace : List (Option Job) → Event → Type 0
HasPlace jobs (Begin agent job) = agent < length jobs
HasPlace jobs other = Unit {0}

abbrev pub job_of : Task → Job
job_of task = Transaction task.caller task.site task.ops

-- a transaction, whose agent is its number's rest by 64, is of the job that this agent began last
abbrev pub IsOfJob : List (Option Job) → Task → Type 0
IsOfJob jobs task = job_at jobs (task.t % max_agents) ≡ Some (job_of task)

-- Some events from the opening on made this world, and each transaction in it is of the job that its agent began last.
pub record IsPlayed (given : Opening) (world : World) (jobs : List (Option Job)) : Type 0 where
  pub events : List Event
  pub is : world ≡ run given events
  pub begun : (number : ℕ) (actor : Actor) → actor_at world number ≡ Some actor → (task : Task) → task_of actor.agent.doing ≡ Some task → IsOfJob jobs task

-- ---- what is decided

-- a transaction of this number, which carries out this job, is so answered; a sweep is none
abbrev pub of_job : ℕ → Result (List Answer) Refusal → Option Job → Option Decided
of_job t answer (Some (Transaction caller site ops)) = Some (record { t = t; caller = caller; ops = ops; answer = answer })
of_job t answer (Some (Sweep server)) = None
of_job t answer None = None

abbrev pub decision_as : Option Job → Option ℕ → Option (Result (List Answer) Refusal) → Option Decided
decision_as job (Some t) (Some answer) = of_job t answer job
decision_as job t answer = None

-- a Decide that was served, and answered as Answered or Refused
abbrev pub decision_by : Option Job → Option Served → Option Decided
decision_by job (Some what) = decision_as job (to_decide what.request.value) (answer_in what.reply.value)
decision_by job None = None

-- ---- how many jobs each agent began

abbrev pub count_at : List ℕ → ℕ → ℕ
count_at counts agent = slice_index_or counts agent 0

abbrev pub counts_after : List ℕ → Event → List ℕ
counts_after counts (Begin agent job) = slice_set counts agent (count_at counts agent + 1)
counts_after counts other = counts

abbrev pub IsCounted : List ℕ → Event → Type 0
IsCounted counts (Begin agent job) = agent < length counts
IsCounted counts other = Unit {0}

-- so many are begun in a world
abbrev pub AreCounted : World → List ℕ → Type 0
AreCounted world counts = (number : ℕ) (actor : Actor) → actor_at world number ≡ Some actor → actor.agent.count ≡ count_at counts number
