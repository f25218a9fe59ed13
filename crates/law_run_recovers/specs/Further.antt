-- More of a transaction that is told as at its begin: just where it is decided, where votes were never moved; and what it has gathered as it is decided.
use Rattle.std.specs.Prelude.{◌&&◌, ◌++◌, ◌∷◌, ◌≡◌, Bool, Contains, List, None, Option, Some, false, is_some, ℕ}
use Rattle.acl_core.specs.Identity.{Identity}
use Rattle.suite_prefix.specs.LockModes.{serves}
use Rattle.suite_prefix.specs.SettingsRules.{Opening}
use Rattle.suite_prefix.specs.declared.lock_mode.LockMode.{LockMode}
use Rattle.file_ops.specs.Rows.{row_of}
use Rattle.file_ops.specs.declared.operation.Op.{Op}
use Rattle.txn_core.specs.Agents.{fixed_of}
use Rattle.txn_core.specs.Doing.{Running, TransactionRun}
use Rattle.txn_core.specs.Suites.{GatheredSuite, suite_of}
use Rattle.txn_core.specs.declared.job.Job.TheVariants.{Transaction}
use Rattle.run_core.specs.Decisions.{Decided, decided}
use Rattle.run_core.specs.Runs.{run}
use Rattle.run_core.specs.TableOfRun.{table_of}
use Rattle.run_core.specs.Worlds.{Actor, actor_at}
use Rattle.run_core.specs.declared.done.EndedJob.{EndedJob}
use Rattle.run_core.specs.declared.event.Event.{Event}
use Rattle.run_core.specs.declared.event.Event.TheVariants.{Begin, Step}
use Rattle.law_run_alone.specs.Undisturbed.{is_decided}
use Rattle.law_run_recovers.specs.Demands.{has_asked}
use Rattle.law_run_recovers.specs.Ways.{asks_for}
use Rattle.law_run_recovers.specs.Ends.{EndsThen, Premise, WasDecidedThen, has_votes_open}
use Rattle.law_run_recovers.specs.Clashing.{HasFirstVotes}

-- ---- where votes were never moved

-- the votes of these suites were never other than the first ones
abbrev pub VotesNeverMovedOf : Opening → List Event → List (ℕ × LockMode) → Type 0
VotesNeverMovedOf given events asked = (before later : List Event) (one : ℕ × LockMode) → events ≡ before ++ later → Contains asked one → HasFirstVotes given.c0 (row_of (table_of given before).rows one.0)

-- Then it is decided just where its home is up and enough votes by the rows are open to it.
abbrev pub AreDecidedWhereOpen : Premise → Opening → List Event → Type 0
AreDecidedWhereOpen goes given events =
    (later : List Event) (agent t : ℕ) (caller : Identity) (site : ℕ) (ops : List Op) (actor : Actor) → goes given events later agent t caller site ops actor
    → VotesNeverMovedOf given events (asks_for given events t caller ops)
    → (job : EndedJob) → EndsThen given events later agent t caller site ops job → is_decided job.ending ≡ has_votes_open given events t caller ops

-- ---- what it has gathered

-- whether a suite was gathered in a mode, or in a stronger one
abbrev pub is_gathered : LockMode → Option GatheredSuite → Bool
is_gathered mode (Some suite) = is_some suite.first && serves suite.mode mode
is_gathered mode None = false

-- In the step of its agent in which it is decided it has gathered just what it asks for on the table as it began: each suite, in each mode.
pub record GathersItsAsks (given : Opening) (events later : List Event) (agent t : ℕ) (caller : Identity) (site : ℕ) (ops : List Op) : Type 0 where
  pub before : List Event
  pub after : List Event
  pub parts : later ≡ before ++ Step agent ∷ after
  pub one : Decided
  pub decides : decided (fixed_of given) (run given (events ++ Begin agent (Transaction caller site ops) ∷ before)) (Step agent) ≡ Some one
  pub of_it : one.t ≡ t
  pub at_decision : Actor
  pub there : actor_at (run given (events ++ Begin agent (Transaction caller site ops) ∷ before)) agent ≡ Some at_decision
  pub txn_run : TransactionRun
  pub running : at_decision.agent.doing ≡ Some (Running txn_run)
  pub suites : (z : ℕ) (mode : LockMode) → is_gathered mode (suite_of txn_run.suites z) ≡ has_asked (asks_for given events t caller ops) z mode

-- It was decided: then it has gathered just what it asks for on that table.
abbrev pub GatherTheirAsks : Premise → Opening → List Event → Type 0
GatherTheirAsks goes given events =
    (later : List Event) (agent t : ℕ) (caller : Identity) (site : ℕ) (ops : List Op) (actor : Actor) → goes given events later agent t caller site ops actor
    → WasDecidedThen given events later agent t caller site ops → GathersItsAsks given events later agent t caller site ops
