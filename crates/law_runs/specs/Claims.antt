-- What holds of the decisions of every run.
use Rattle.std.specs.Prelude.{◌≡◌, ◌≢◌, ℕ, ◌==◌, nat_eq, false, if◌then◌else◌, List, [], ◌∷◌, ◌++◌, map, Contains, Option, Some, None, Result, Ok, Err}
use Rattle.std.specs.List.{IsDistinct}
use Rattle.suite_prefix.specs.SettingsRules.{Opening, IsAccepted}
use Rattle.acl_core.specs.Identity.{Identity}
use Rattle.file_ops.specs.declared.answer.Answer.{Answer}
use Rattle.file_ops.specs.declared.audit.AuditItem.{AuditItem}
use Rattle.file_ops.specs.declared.refusal.Refusal.{Refusal}
use Rattle.file_ops.specs.declared.service.Service.{Service}
use Rattle.file_ops.specs.Transactions.{denials}
use Rattle.rep_core.specs.declared.reply.Verdict.{Verdict}
use Rattle.rep_core.specs.declared.reply.Verdict.TheVariants as verdict
use Rattle.rep_core.specs.State.{State, record_of}
use Rattle.txn_core.specs.declared.ending.Cause.{Cause}
use Rattle.txn_core.specs.declared.ending.Ending.TheVariants.{Answered, Refused, Undecided}
use Rattle.txn_core.specs.declared.job.Job.{Job}
use Rattle.txn_core.specs.Doing.{home_of}
use Rattle.txn_core.specs.Agents.{fixed_of}
use Rattle.run_core.specs.declared.event.Event.{Event}
use Rattle.run_core.specs.declared.event.Event.TheVariants.{Begin}
use Rattle.run_core.specs.declared.done.EndedJob.{EndedJob}
use Rattle.run_core.specs.Worlds.{audit_of, server_at}
use Rattle.run_core.specs.Runs.{run, done_in, outcomes}
use Rattle.run_core.specs.Decisions.{Decided, decisions}
use Rattle.law_runs.specs.Numbers.{number_of, was_begun, begins_at}

-- the jobs that ended in a run
abbrev pub ended : Opening → List Event → List EndedJob
ended given events = outcomes (done_in given events)

-- ---- decided once

-- the transaction stands among the decisions, with this answer
pub record IsDecidedAs (all : List Decided) (t : ℕ) (answer : Result (List Answer) Refusal) : Type 0 where
  pub decision : Decided
  pub there : Contains all decision
  pub of_it : decision.t ≡ t
  pub answered : decision.answer ≡ answer

-- it does not stand there
abbrev pub IsNotDecided : List Decided → ℕ → Type 0
IsNotDecided all t = (one : Decided) → Contains all one → one.t ≢ t

-- Each transaction stands among the decisions of a run once at most. A job that ended Answered or Refused stands there with that answer. One that
-- ended undecided stands there never, however the run goes on.
pub record IsDecidedOnce (given : Opening) (events : List Event) : Type 0 where
  pub once : IsDistinct nat_eq (map (λ (one : Decided). one.t) (decisions given events))
  pub answered : (job : EndedJob) (answers : List Answer) → Contains (ended given events) job → job.ending ≡ Answered answers → IsDecidedAs (decisions given events) (number_of job) (Ok answers)
  pub refused : (job : EndedJob) (refusal : Refusal) → Contains (ended given events) job → job.ending ≡ Refused refusal → IsDecidedAs (decisions given events) (number_of job) (Err refusal)
  pub undecided : (job : EndedJob) (cause : Cause) → Contains (ended given events) job → job.ending ≡ Undecided cause → (later : List Event) → IsNotDecided (decisions given (events ++ later)) (number_of job)

abbrev pub DecidedOnce : Type 0
DecidedOnce = (given : Opening) → IsAccepted given → (events : List Event) → IsDecidedOnce given events

-- ---- a decision is its home's record

-- what a home records of an answer
abbrev pub verdict_of : Result (List Answer) Refusal → Verdict
verdict_of (Ok answers) = verdict.Answered answers
verdict_of (Err refusal) = verdict.Refused refusal

-- what a server recorded of a transaction; one that is not there recorded nothing
abbrev pub record_by : Option State → ℕ → Option Verdict
record_by (Some st) t = record_of st t
record_by None t = None

abbrev pub record_at : Opening → List Event → ℕ → ℕ → Option Verdict
record_at given events server t = record_by (server_at (run given events) server) t

-- Each decision stands in the record of its home, with its answer; and what any server has recorded as answered or refused is a decision, with that answer.
pub record AreTheRecords (given : Opening) (events : List Event) : Type 0 where
  pub kept : (one : Decided) → Contains (decisions given events) one → record_at given events (home_of (fixed_of given).service one.t) one.t ≡ Some (verdict_of one.answer)
  pub answered : (server t : ℕ) (answers : List Answer) → record_at given events server t ≡ Some (verdict.Answered answers) → IsDecidedAs (decisions given events) t (Ok answers)
  pub refused : (server t : ℕ) (refusal : Refusal) → record_at given events server t ≡ Some (verdict.Refused refusal) → IsDecidedAs (decisions given events) t (Err refusal)

abbrev pub DecisionsAreTheRecords : Type 0
DecisionsAreTheRecords = (given : Opening) → IsAccepted given → (events : List Event) → AreTheRecords given events

-- ---- the audit is the denials

-- the denial that the plain table keeps of a transaction, where it was denied
abbrev pub denied_in : ℕ → Identity → Result (List Answer) Refusal → List AuditItem
denied_in t caller (Ok answers) = []
denied_in t caller (Err refusal) = denials t caller refusal

abbrev pub denials_of : Decided → List AuditItem
denials_of one = denied_in one.t one.caller one.answer

-- the denials of the decisions whose home is a server, in their order
abbrev pub denials_at : Service → ℕ → List Decided → List AuditItem
denials_at service server [] = []
denials_at service server (one ∷ later) = (if home_of service one.t == server then denials_of one else []) ++ denials_at service server later

abbrev pub AuditIsTheDenials : Type 0
AuditIsTheDenials =
    (given : Opening) → IsAccepted given → (events : List Event) (server : ℕ)
    → audit_of (run given events) server ≡ denials_at (fixed_of given).service server (decisions given events)

-- ---- answered before, decided before

-- wherever the second stands, the first stands before it
abbrev pub StandsBefore : List Decided → Decided → Decided → Type 0
StandsBefore all first second = (before after : List Decided) → all ≡ before ++ second ∷ after → Contains before first

-- Of two decisions the one whose job ended before the other's began stands first: it ended in these events, after which the other was not begun.
abbrev pub AnsweredBefore : Type 0
AnsweredBefore =
    (given : Opening) → IsAccepted given → (events later : List Event) (job : EndedJob) (first second : Decided)
    → Contains (ended given events) job → number_of job ≡ first.t → was_begun (run given events) second.t ≡ false
    → Contains (decisions given (events ++ later)) first
    → StandsBefore (decisions given (events ++ later)) first second

-- A change that was answered, as that of an access list, is met by every request that begins later: its decision stands there, and before
-- that of the request.
pub record IsMet (all : List Decided) (t : ℕ) (answer : Result (List Answer) Refusal) (request : Decided) : Type 0 where
  pub change : Decided
  pub there : Contains all change
  pub of_it : change.t ≡ t
  pub answered : change.answer ≡ answer
  pub before : StandsBefore all change request

abbrev pub ChangesAreMet : Type 0
ChangesAreMet =
    (given : Opening) → IsAccepted given → (events later : List Event) (job : EndedJob) (answers : List Answer) (agent t : ℕ) (asked : Job) (request : Decided)
    → Contains (ended given events) job → job.ending ≡ Answered answers
    → begins_at given (run given events) (Begin agent asked) ≡ Some t → request.t ≡ t
    → IsMet (decisions given (events ++ Begin agent asked ∷ later)) (number_of job) (Ok answers) request
