-- The laws of this crate: what holds of every run that there can be, whatever the order of its events.
use Rattle.std.specs.Prelude.{◌≡◌, ◌⊎◌, ℕ, Bool, true, ◌&&◌, List, ◌∷◌, ◌++◌, Contains, Some}
use Rattle.std.specs.List.{list_any}
use Rattle.suite_prefix.specs.SettingsRules.{Opening}
use Rattle.suite_prefix.specs.declared.copies.Prefix.{Prefix}
use Rattle.suite_prefix.specs.declared.lock_mode.LockMode.{LockMode}
use Rattle.suite_prefix.specs.declared.lock_mode.LockMode.TheVariants.{Exclusive}
use Rattle.suite_prefix.specs.LockModes.{serves}
use Rattle.rep_core.specs.declared.request.Request.{Request}
use Rattle.rep_core.specs.declared.request.Request.TheVariants.{Poll, Upgrade}
use Rattle.rep_core.specs.declared.reply.Reply.TheVariants.{Held}
use Rattle.rep_core.specs.Locks.{is_own}
use Rattle.file_ops.specs.Rows as rows
use Rattle.file_ops.specs.Rows.{row_of}
use Rattle.txn_core.specs.Suites.{ReadPoint, GatheredSuite, suite_of}
use Rattle.txn_core.specs.declared.ending.Cause.{Cause}
use Rattle.txn_core.specs.declared.ending.Ending.TheVariants.{Undecided}
use Rattle.txn_core.specs.declared.job.Job.{Job}
use Rattle.txn_core.specs.Doing.{Fixed, TransactionRun, Running}
use Rattle.txn_core.specs.Agents as agents
use Rattle.txn_core.specs.Agents.{Agent, fixed_of, is_idle, begin, after_all}
use Rattle.run_core.specs.declared.event.Event.{Event}
use Rattle.run_core.specs.declared.event.Event.TheVariants.{Step}
use Rattle.run_core.specs.declared.done.EndedJob.{EndedJob}
use Rattle.run_core.specs.declared.done.Served.{Served}
use Rattle.run_core.specs.Worlds.{audit_of, step}
use Rattle.run_core.specs.Runs.{run}
use Rattle.run_core.specs.Decisions.{Decided, decided, decisions}
use Rattle.run_core.specs.TableOfRun as table
use Rattle.run_core.specs.TableOfRun.{table_of}
use Rattle.law_runs.specs.Numbers.{number_of}
use Rattle.law_runs.specs.Claims.{ended, IsNotDecided, denials_at}
use Rattle.law_runs.specs.Answers.{all_denials}
use Rattle.law_run_quorums.specs.Firsts.{FirstFrom}
use Rattle.law_run_machine.specs.Machines.{servers_of, machine_of}
use Rattle.law_run_machine.specs.Sides as sides
use Rattle.law_run_knowledge.specs.Knowledge.{AllWere}
use Rattle.law_server_moves.specs.Laws.{beginning}
use Rattle.law_one_table.specs.Tables.{row_shown, register}
use Rattle.law_one_table.specs.Versions.{HaveVersions}
use Rattle.law_headline.specs.Premises.{CanBe}
use Rattle.law_headline.specs.Nothing.{ChangedNothing}
use Rattle.law_headline.specs.Promises.{AreAsBegun, StandInOrder, MeetsChanges}

-- ---- one table

-- Each decision has the answer that the plain table gives after the decisions before it.
abbrev pub AnswersAreTheTables : Type 0
AnswersAreTheTables = (given : Opening) (events : List Event) → CanBe given events → table.AnswersAreTheTables (rows.opening given) (decisions given events)

-- The denials of that table are those of all decisions, in their order; and each server keeps those whose home it is.
abbrev pub AuditIsTheDenials : Type 0
AuditIsTheDenials =
    (given : Opening) (events : List Event) → CanBe given events
    → ((table_of given events).audit ≡ all_denials (decisions given events))
    × ((server : ℕ) → audit_of (run given events) server ≡ denials_at (fixed_of given).service server (decisions given events))

-- ---- its order

-- What is decided was begun by that caller with those operations.
abbrev pub DecidedAsBegun : Type 0
DecidedAsBegun = (given : Opening) (events : List Event) → CanBe given events → AreAsBegun given events

-- Of two decisions the one whose job ended before the other's began stands first.
abbrev pub AnsweredBefore : Type 0
AnsweredBefore = (given : Opening) (events : List Event) → CanBe given events → StandInOrder given events

-- So a change that was answered, as one that revokes a permission, is met by every request that begins later, whatever old copies and caches remain.
abbrev pub RevocationsAreMet : Type 0
RevocationsAreMet = (given : Opening) (events : List Event) → CanBe given events → MeetsChanges given events

-- ---- locks

-- a lock in this mode is asked for: in a Poll, or in an Upgrade, which makes a lock exclusive
abbrev pub AsksForLock : ℕ → ℕ → LockMode → Request → Type 0
AsksForLock t suite mode asked = (asked ≡ Poll t suite mode) ⊎ ((asked ≡ Upgrade t suite) × (mode ≡ Exclusive))

-- in this event a server told the transaction that it has a lock on the suite there in this mode
pub record TellsOfLock (given : Opening) (events : List Event) (event : Event) (t suite : ℕ) (mode : LockMode) (server : ℕ) : Type 0 where
  pub what : Served
  pub served : (step (fixed_of given) (run given events) event).done.served ≡ Some what
  pub at : what.server ≡ server
  pub asked : AsksForLock t suite mode what.request.value
  pub prefix : Prefix
  pub dver : ℕ
  pub told : what.reply.value ≡ Held prefix dver

-- whether a server has a lock of the transaction on the suite, in this mode or a stronger one, after these events
abbrev pub has_lock_after : Opening → List Event → ℕ → ℕ → LockMode → ℕ → Bool
has_lock_after given events t suite mode server = list_any (λ lock. is_own t suite lock && serves lock.mode mode) (servers_of given (run given events) server).locks

-- Where a transaction is decided, each lock that it was told of has stood after every event since, in the mode of which it was told or a stronger one,
-- whatever crashed and whoever swept.
abbrev pub LocksStand : Type 0
LocksStand =
    (given : Opening) (events : List Event) (event : Event) (later : List Event) (number : ℕ) (one : Decided) (suite : ℕ) (mode : LockMode) (server : ℕ) → CanBe given (events ++ event ∷ later)
    → TellsOfLock given events event one.t suite mode server
    → decided (fixed_of given) (run given (events ++ event ∷ later)) (Step number) ≡ Some one
    → (between after : List Event) → later ≡ between ++ after → has_lock_after given (events ++ event ∷ between) one.t suite mode server ≡ true

-- ---- what is in effect

-- The rows of the table have versions that rise as they change, and each row is in effect at its versions in every read and every write quorum of its
-- votes. Every quorum of votes that were replaced has a newer prefix in effect. What is in effect and what caches keep was the table's.
abbrev pub RowsHaveVersions : Type 0
RowsHaveVersions = (given : Opening) (events : List Event) → CanBe given events → HaveVersions given events

-- Each row of the table is what the register of its suite's machine holds.
abbrev pub RowsAreTheRegisters : Type 0
RowsAreTheRegisters = (given : Opening) (events : List Event) → CanBe given events → (z : ℕ) → row_of (table_of given events).rows z ≡ row_shown (register given z events)

-- ---- what is not decided

-- A transaction that is not decided so far changed nothing so far, whatever versions the rows have.
abbrev pub NotDecidedChangeNothing : Type 0
NotDecidedChangeNothing =
    (given : Opening) (events : List Event) (versions : HaveVersions given events) (t : ℕ) → CanBe given events
    → IsNotDecided (decisions given events) t → ChangedNothing given versions.at events t

-- So one whose job ended undecided changed nothing, and changes nothing however the run goes on.
abbrev pub UndecidedChangeNothing : Type 0
UndecidedChangeNothing =
    (given : Opening) (events later : List Event) (versions : HaveVersions given (events ++ later)) (job : EndedJob) (cause : Cause) → CanBe given (events ++ later)
    → Contains (ended given events) job → job.ending ≡ Undecided cause → ChangedNothing given versions.at (events ++ later) (number_of job)

-- ---- agents

-- What agents keep in their caches, and what transactions know, was once so: each hint was the prefix that the suite's register had at its version, and each
-- content the one that it had.
abbrev pub KnowledgeWas : Type 0
KnowledgeWas = (given : Opening) (events : List Event) → CanBe given events → (z : ℕ) → AllWere z (beginning z given) (machine_of given z events) (run given events)

-- Agents keep to their side of the machine of each suite.
abbrev pub AgentsKeepSides : Type 0
AgentsKeepSides = (given : Opening) (events : List Event) → CanBe given events → (z : ℕ) → sides.AgentsKeepSides given z events

-- Whatever an agent that began a job is told: what is kept as the first quorum of a suite was given by the suite's collector, when some of what it was
-- told by now had been told.
abbrev pub FirstsAreGiven : Type 0
FirstsAreGiven =
    (fixed : Fixed) (agent : Agent) (job : Job) (told : List agents.Event) (txn_run : TransactionRun) → is_idle agent.doing ≡ true → (after_all fixed (begin fixed agent job) told).doing ≡ Some (Running txn_run)
    → (number : ℕ) (suite : GatheredSuite) (first : ReadPoint) → suite_of txn_run.suites number ≡ Some suite → suite.first ≡ Some first → FirstFrom suite first
