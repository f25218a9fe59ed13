-- What an agent knew when its transaction was decided, and what it was so answered.
use Rattle.std.specs.Prelude.{◌≡◌, ℕ, List, [], ◌∷◌, ◌++◌, Some}
use Rattle.suite_prefix.specs.SettingsRules.{Opening}
use Rattle.file_ops.specs.declared.audit.AuditItem.{AuditItem}
use Rattle.file_ops.specs.Rows as rows
use Rattle.file_ops.specs.Rows.{Rows, row_of}
use Rattle.file_ops.specs.Transactions.{transaction, replies}
use Rattle.file_exec.specs.Known.{AgreesWith}
use Rattle.txn_core.specs.Suites.{known_of}
use Rattle.txn_core.specs.Doing.{Proposal, TransactionRun, Running, Deciding}
use Rattle.txn_core.specs.Agents.{fixed_of}
use Rattle.run_core.specs.declared.event.Event.{Event}
use Rattle.run_core.specs.declared.event.Event.TheVariants.{Step}
use Rattle.run_core.specs.Worlds.{Actor, World, actor_at}
use Rattle.run_core.specs.Runs.{run}
use Rattle.run_core.specs.Decisions.{Decided, decided, decisions}
use Rattle.run_core.specs.TableOfRun.{table_of, AnswersAreTheTables}
use Rattle.law_runs.specs.Claims.{denials_of}

-- It is decided in a step of its agent, which asks for the decision of its own transaction; and the answer is the plain transaction's, on all rows with
-- which what the agent then knows agrees.
pub record IsAnsweredAsKnown (given : Opening) (world : World) (event : Event) (one : Decided) : Type 0 where
  pub number : ℕ
  pub step : event ≡ Step number
  pub actor : Actor
  pub there : actor_at world number ≡ Some actor
  pub txn_run : TransactionRun
  pub running : actor.agent.doing ≡ Some (Running txn_run)
  pub outcome : Proposal
  pub deciding : txn_run.phase ≡ Deciding outcome
  pub t : one.t ≡ txn_run.task.t
  pub caller : one.caller ≡ txn_run.task.caller
  pub ops : one.ops ≡ txn_run.task.ops
  pub answered : (rows : Rows) → AgreesWith (known_of txn_run.suites) (row_of rows) → one.answer ≡ replies (transaction (fixed_of given).service rows one.t one.caller one.ops)

abbrev pub AnswersFollowKnowledge : Type 0
AnswersFollowKnowledge =
    (given : Opening) (events : List Event) (event : Event) (one : Decided)
    → decided (fixed_of given) (run given events) event ≡ Some one → IsAnsweredAsKnown given (run given events) event one

-- ---- what the headline rests on

-- Whenever a transaction is decided, what its agent knows agrees with the table of the run so far.
abbrev pub KnowsTheTable : Opening → Type 0
KnowsTheTable given =
    (events : List Event) (number : ℕ) (one : Decided) (actor : Actor) (txn_run : TransactionRun)
    → decided (fixed_of given) (run given events) (Step number) ≡ Some one
    → actor_at (run given events) number ≡ Some actor → actor.agent.doing ≡ Some (Running txn_run)
    → AgreesWith (known_of txn_run.suites) (row_of (table_of given events).rows)

-- Then every run is answered as one table answers it.
abbrev pub KnownAnswersAreTheTables : Type 0
KnownAnswersAreTheTables = (given : Opening) → KnowsTheTable given → (events : List Event) → AnswersAreTheTables (rows.opening given) (decisions given events)

-- all denials of decisions, in their order
abbrev pub all_denials : List Decided → List AuditItem
all_denials [] = []
all_denials (one ∷ later) = denials_of one ++ all_denials later

-- And the audit of that table is the denials of all decisions; each server has those whose home it is.
abbrev pub TablesAuditIsTheDenials : Type 0
TablesAuditIsTheDenials =
    (given : Opening) (events : List Event) → AnswersAreTheTables (rows.opening given) (decisions given events)
    → (table_of given events).audit ≡ all_denials (decisions given events)
