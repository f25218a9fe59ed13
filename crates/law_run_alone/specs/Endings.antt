-- How the jobs of a run end that go one at a time.
use Rattle.std.specs.Prelude.{◌≡◌, ◌⊎◌, ℕ, ◌≤◌, true, List, [], ◌∷◌, ◌++◌, length, option_map, Contains, Option, Some, None, Result, Ok, Err}
use Rattle.std.specs.List.{filter_map}
use Rattle.acl_core.specs.Identity.{Identity}
use Rattle.suite_prefix.specs.SettingsRules.{Opening}
use Rattle.file_ops.specs.declared.answer.Answer.{Answer}
use Rattle.file_ops.specs.declared.operation.Op.{Op}
use Rattle.file_ops.specs.declared.refusal.Refusal.{Refusal}
use Rattle.file_ops.specs.Rows as rows
use Rattle.file_ops.specs.Rows.{PlainTable}
use Rattle.file_ops.specs.Transactions.{replies}
use Rattle.txn_core.specs.declared.ending.Ending.{Ending}
use Rattle.txn_core.specs.declared.ending.Ending.TheVariants.{Answered, Refused, Swept, Undecided}
use Rattle.txn_core.specs.declared.job.Job.{Job}
use Rattle.txn_core.specs.declared.job.Job.TheVariants.{Transaction}
use Rattle.txn_core.specs.Doing.{Task}
use Rattle.run_core.specs.declared.event.Event.{Event}
use Rattle.run_core.specs.declared.done.EndedJob.{EndedJob}
use Rattle.run_core.specs.Worlds.{World, actor_at}
use Rattle.run_core.specs.Runs.{run}
use Rattle.run_core.specs.Decisions.{Decided, decisions, task_at}
use Rattle.run_core.specs.TableOfRun.{played_on, table_with}
use Rattle.law_runs.specs.Numbers.{number_of}
use Rattle.law_runs.specs.Claims.{ended}
use Rattle.law_headline.specs.Premises.{CanBe}
use Rattle.law_run_alone.specs.Alone.{all_idle, jobs_of, one_at_a_time}
use Rattle.law_run_alone.specs.Undisturbed.{all_undisturbed}

-- ---- the endings of decided transactions

-- how a transaction was decided that so ended: its replies, or its refusal
abbrev pub answer_by : Ending → Option (Result (List Answer) Refusal)
answer_by (Answered answers) = Some (Ok answers)
answer_by (Refused refusal) = Some (Err refusal)
answer_by (Swept broken finished left) = None
answer_by (Undecided cause) = None

abbrev pub decided_ending : EndedJob → Option (ℕ × Result (List Answer) Refusal)
decided_ending job = option_map (λ answer. (number_of job, answer)) (answer_by job.ending)

-- the endings of the decided transactions among the jobs that ended, in their order
abbrev pub decided_endings : List EndedJob → List (ℕ × Result (List Answer) Refusal)
decided_endings jobs = filter_map decided_ending jobs

-- those that the plain table gives, which takes these transactions one at a time
abbrev pub tables_endings : PlainTable → List Decided → List (ℕ × Result (List Answer) Refusal)
tables_endings table [] = []
tables_endings table (one ∷ later) = (one.t, replies (played_on table one)) ∷ tables_endings (table_with table one) later

-- The endings of the decided transactions are those of the table, in order. The last may be decided and still tell servers so.
pub record EndAsTheTable (given : Opening) (events : List Event) : Type 0 where
  pub telling : List (ℕ × Result (List Answer) Refusal)
  pub are : tables_endings (rows.opening given) (decisions given events) ≡ decided_endings (ended given events) ++ telling
  pub one : length telling ≤ 1
  pub none_where_idle : all_idle (run given events) ≡ true → telling ≡ []

-- It is so of every run that there can be, in which a job begins only when every agent is idle.
abbrev pub EndingsAreTheTables : Type 0
EndingsAreTheTables =
    (given : Opening) (events : List Event) → CanBe given events → one_at_a_time given events ≡ true → EndAsTheTable given events

-- ---- two runs of the same jobs

-- settings that differ at most in what caches may keep
pub record AreAlike (given other : Opening) : Type 0 where
  pub servers : other.servers ≡ given.servers
  pub agents : other.agents ≡ given.agents
  pub c0 : other.c0 ≡ given.c0
  pub root_owner : other.root_owner ≡ given.root_owner
  pub root_group : other.root_group ≡ given.root_group
  pub root_acl : other.root_acl ≡ given.root_acl

-- the number is that of a transaction that was begun
pub record IsTransaction (jobs : List (ℕ × Job)) (t : ℕ) : Type 0 where
  pub caller : Identity
  pub site : ℕ
  pub ops : List Op
  pub there : Contains jobs (t, Transaction caller site ops)

-- it is decided; some agent still carries it out
pub record IsDecided (all : List Decided) (t : ℕ) : Type 0 where
  pub decision : Decided
  pub there : Contains all decision
  pub of_it : decision.t ≡ t

pub record IsRunning (world : World) (t : ℕ) : Type 0 where
  pub number : ℕ
  pub task : Task
  pub runs : task_at (actor_at world number) ≡ Some task
  pub of_it : task.t ≡ t

-- each transaction that began was decided, or still runs
abbrev pub AllAreDecided : Opening → List Event → Type 0
AllAreDecided given events = (t : ℕ) → IsTransaction (jobs_of given events) t → IsDecided (decisions given events) t ⊎ IsRunning (run given events) t

-- Of two such runs, from settings that differ at most in what caches may keep, in which the same agents begin the same jobs in the same order, and each
-- transaction that ended was decided: each transaction that ended in both has one ending.
abbrev pub EndingsAreOne : Type 0
EndingsAreOne =
    (given other : Opening) → AreAlike given other → (events events' : List Event) → CanBe given events → CanBe other events'
    → one_at_a_time given events ≡ true → one_at_a_time other events' ≡ true → jobs_of given events ≡ jobs_of other events'
    → AllAreDecided given events → AllAreDecided other events'
    → (job job' : EndedJob) → Contains (ended given events) job → Contains (ended other events') job' → number_of job ≡ number_of job'
    → IsTransaction (jobs_of given events) (number_of job) → job.ending ≡ job'.ending

-- Of two such runs in which nothing disturbs any transaction, from settings that differ at most in what caches may keep, and in which the same agents
-- begin the same jobs in the same order: each transaction that ended in both has one ending.
abbrev pub UndisturbedEndingsAreOne : Type 0
UndisturbedEndingsAreOne =
    (given other : Opening) → AreAlike given other → (events events' : List Event) → CanBe given events → CanBe other events'
    → one_at_a_time given events ≡ true → one_at_a_time other events' ≡ true → jobs_of given events ≡ jobs_of other events'
    → all_undisturbed given events ≡ true → all_undisturbed other events' ≡ true
    → (job job' : EndedJob) → Contains (ended given events) job → Contains (ended other events') job' → number_of job ≡ number_of job'
    → IsTransaction (jobs_of given events) (number_of job) → job.ending ≡ job'.ending
