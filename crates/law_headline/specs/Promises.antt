-- What is promised of a run at each of its moments, and what a world so promises.
use Rattle.std.specs.Prelude.{◌≡◌, ℕ, false, List, [], ◌∷◌, ◌++◌, Contains, Some, Result, Ok}
use Rattle.vote_core.specs.Validity.{IsValid}
use Rattle.suite_prefix.specs.SettingsRules.{Opening, IsAccepted}
use Rattle.acl_core.specs.Identity.{Identity}
use Rattle.file_ops.specs.declared.answer.Answer.{Answer}
use Rattle.file_ops.specs.declared.operation.Op.{Op}
use Rattle.file_ops.specs.declared.refusal.Refusal.{Refusal}
use Rattle.file_ops.specs.Rows as rows
use Rattle.file_ops.specs.Transactions.{replies}
use Rattle.txn_core.specs.declared.ending.Ending.TheVariants.{Answered}
use Rattle.txn_core.specs.declared.job.Job.{Job}
use Rattle.txn_core.specs.declared.job.Job.TheVariants.{Transaction}
use Rattle.txn_core.specs.Agents.{fixed_of}
use Rattle.run_core.specs.declared.event.Event.{Event}
use Rattle.run_core.specs.declared.event.Event.TheVariants.{Begin}
use Rattle.run_core.specs.declared.done.EndedJob.{EndedJob}
use Rattle.run_core.specs.Worlds.{World, opening, audit_of}
use Rattle.run_core.specs.Runs.{after, run}
use Rattle.run_core.specs.Decisions.{Decided, decisions}
use Rattle.run_core.specs.TableOfRun.{played_on, table_after_all, table_of, AnswersAreTheTables}
use Rattle.run_core.specs.Opened.{Opened}
use Rattle.law_runs.specs.Numbers.{number_of, was_begun, begins_at}
use Rattle.law_runs.specs.Answers.{all_denials}
use Rattle.law_runs.specs.Claims.{ended, IsDecidedOnce, IsNotDecided, AreTheRecords, denials_at, StandsBefore}
use Rattle.law_one_table.specs.Versions.{HaveVersions}
use Rattle.law_headline.specs.Premises.{CanBe, VotesAreValid}
use Rattle.law_headline.specs.Nothing.{ChangedNothing}

-- A transaction was begun with this number, for this caller, and with these operations.
pub record WasBegun (given : Opening) (events : List Event) (t : ℕ) (caller : Identity) (ops : List Op) : Type 0 where
  pub agent : ℕ
  pub site : ℕ
  pub before : List Event
  pub later : List Event
  pub split : events ≡ before ++ Begin agent (Transaction caller site ops) ∷ later
  pub number : begins_at given (run given before) (Begin agent (Transaction caller site ops)) ≡ Some t

-- What is decided was begun so.
abbrev pub AreAsBegun : Opening → List Event → Type 0
AreAsBegun given events = (one : Decided) → Contains (decisions given events) one → WasBegun given events one.t one.caller one.ops

-- Of two decisions the one whose job ended before the other's began stands first: it ended in the events after which the other was not begun.
abbrev pub StandInOrder : Opening → List Event → Type 0
StandInOrder given events =
    (before later : List Event) (job : EndedJob) (first second : Decided) → events ≡ before ++ later
    → Contains (ended given before) job → number_of job ≡ first.t → was_begun (run given before) second.t ≡ false
    → Contains (decisions given events) first → StandsBefore (decisions given events) first second

-- A request is answered by the table on which a change was made before: the change was decided with this answer, it stands among the decisions
-- before the request, and the request has the answer of the table after those.
pub record MeetsChange (given : Opening) (all : List Decided) (t : ℕ) (answer : Result (List Answer) Refusal) (request : Decided) : Type 0 where
  pub before : List Decided
  pub after : List Decided
  pub parts : all ≡ before ++ request ∷ after
  pub change : Decided
  pub there : Contains before change
  pub of_it : change.t ≡ t
  pub answered : change.answer ≡ answer
  pub answers : request.answer ≡ replies (played_on (table_after_all (rows.opening given) before) request)

-- A change that was answered, as one that takes a permission away, is met by every request that began later.
abbrev pub MeetsChanges : Opening → List Event → Type 0
MeetsChanges given events =
    (before later : List Event) (job : EndedJob) (answers : List Answer) (agent t : ℕ) (asked : Job) (request : Decided) → events ≡ before ++ Begin agent asked ∷ later
    → Contains (ended given before) job → job.ending ≡ Answered answers → begins_at given (run given before) (Begin agent asked) ≡ Some t → request.t ≡ t
    → Contains (decisions given events) request → MeetsChange given (decisions given events) (number_of job) (Ok answers) request

-- after these events of a run
pub record IsPromised (given : Opening) (events : List Event) : Type 0 where
  -- each decided transaction was answered as one table answers it that takes them one at a time, in the order of their decisions
  pub answers : AnswersAreTheTables (rows.opening given) (decisions given events)
  -- it was begun by that caller with those operations
  pub begun : AreAsBegun given events
  -- and that is an order in which what was answered stands before all that began later
  pub in_order : StandInOrder given events
  pub changes : MeetsChanges given events
  -- the rows of that table have versions, at which they are in effect in every read and every write quorum of their votes; what was replaced is
  -- seen to be so; and all that is in effect, and all that a cache has, was the table's
  pub versions : HaveVersions given events
  -- each transaction is decided once at most: as its job ended, where that was answered or refused, and never, where it ended undecided
  pub once : IsDecidedOnce given events
  -- and one that is not decided changed nothing
  pub nothing : (t : ℕ) → IsNotDecided (decisions given events) t → ChangedNothing given versions.at events t
  -- each stands in its home's record, and what a server has recorded as answered or refused is one of them
  pub recorded : AreTheRecords given events
  -- each server's audit is the denials of the decisions whose home it is, and the table's audit is all denials
  pub audits : (server : ℕ) → audit_of (run given events) server ≡ denials_at (fixed_of given).service server (decisions given events)
  pub audit : (table_of given events).audit ≡ all_denials (decisions given events)

-- ---- of a world

-- what these events made of what was opened with these settings
pub record IsRunOf (opened : Opened) (events : List Event) : Type 0 where
  pub can_be : CanBe opened.given events
  pub is : opened.world ≡ run opened.given events

-- A world as it opens, with accepted settings and valid votes, is that of no events.
abbrev pub OpensARun : Type 0
OpensARun = (opened : Opened) → IsAccepted opened.given → IsValid opened.given.c0 → opened.world ≡ opening opened.given → IsRunOf opened []

-- One that these events made, and on which later ones were played, is that of all of them.
abbrev pub PlaysOn : Type 0
PlaysOn =
    (opened : Opened) (events later : List Event) (world : World) → IsRunOf opened events → VotesAreValid later
    → world ≡ after (fixed_of opened.given) opened.world later → IsRunOf (record opened { world = world }) (events ++ later)

-- what some events made of it
pub record IsOfRun (opened : Opened) : Type 0 where
  pub events : List Event
  pub of_them : IsRunOf opened events

-- A world promises this of every list of events that made it, at each moment: after those of them that came before some later ones.
abbrev pub Promises : Opened → Type 0
Promises opened = (before later : List Event) → IsRunOf opened (before ++ later) → IsPromised opened.given before
