-- The one table of a run beside the machines of its suites.
use Rattle.std.specs.Prelude.{◌≡◌, ℕ, List, [], ◌∷◌, ◌++◌, Option, Some}
use Rattle.vote_core.specs.Validity.{IsValid}
use Rattle.suite_prefix.specs.SettingsRules.{Opening, IsAccepted}
use Rattle.suite_prefix.specs.declared.copies.Replica.{Replica}
use Rattle.file_ops.specs.Rows as rows
use Rattle.file_ops.specs.Rows.{Row, row_of}
use Rattle.file_exec.specs.Known.{AgreesWith}
use Rattle.txn_core.specs.Suites.{row_with, known_of}
use Rattle.txn_core.specs.Doing.{TransactionRun, Running}
use Rattle.txn_core.specs.Agents.{fixed_of}
use Rattle.run_core.specs.declared.event.Event.{Event}
use Rattle.run_core.specs.declared.event.Event.TheVariants.{Step}
use Rattle.run_core.specs.Worlds.{Actor, actor_at}
use Rattle.run_core.specs.Runs.{run}
use Rattle.run_core.specs.Decisions.{Decided, decided, decisions}
use Rattle.run_core.specs.TableOfRun.{table_of, AnswersAreTheTables}
use Rattle.law_runs.specs.Answers.{all_denials}
use Rattle.law_suite_machine.specs.Registers.{row}
use Rattle.law_server_moves.specs.Laws.{beginning}
use Rattle.law_run_machine.specs.Machines.{machine_of}
use Rattle.law_run_machine.specs.Sides.{AgentsKeepSides}
use Rattle.law_run_machine.specs.Owed.{AgentsOwe}

-- the row that a prefix and a content show; what was never made has none
abbrev pub row_shown : Replica → Option Row
row_shown held = row_with held.prefix.kind held.prefix (Some held.content)

-- what the register of a suite holds after these events of a run
abbrev pub register : Opening → ℕ → List Event → Replica
register given z events = row (beginning z given) (machine_of given z events).log

-- In this run agents keep to their side of every suite's machine.
pub record AllKeepSides (given : Opening) (events : List Event) : Type 0 where
  pub valid : IsValid given.c0
  pub keep : (z : ℕ) → AgentsKeepSides given z events

-- Then each row of the table of the run is what the suite's register holds.
abbrev pub RowsAreTheRegisters : Type 0
RowsAreTheRegisters = (given : Opening) (events : List Event) → AllKeepSides given events → (z : ℕ) → row_of (table_of given events).rows z ≡ row_shown (register given z events)

-- Whenever a transaction is decided, what its agent knows is so in the table of the run so far.
abbrev pub AgentsKnowTheTable : Type 0
AgentsKnowTheTable =
    (given : Opening) (events : List Event) (number : ℕ) (one : Decided) (actor : Actor) (txn_run : TransactionRun) → AllKeepSides given (events ++ Step number ∷ [])
    → decided (fixed_of given) (run given events) (Step number) ≡ Some one
    → actor_at (run given events) number ≡ Some actor → actor.agent.doing ≡ Some (Running txn_run)
    → AgreesWith (known_of txn_run.suites) (row_of (table_of given events).rows)

-- And the run is answered as one table answers it.
abbrev pub AnswersAreOneTables : Type 0
AnswersAreOneTables = (given : Opening) (events : List Event) → AllKeepSides given events → AnswersAreTheTables (rows.opening given) (decisions given events)

-- The audit of that table is the denials of all decisions, in their order.
abbrev pub AuditIsOneTables : Type 0
AuditIsOneTables = (given : Opening) (events : List Event) → AllKeepSides given events → (table_of given events).audit ≡ all_denials (decisions given events)

-- What is owed of agents is enough for all this.
abbrev pub OwedIsEnough : Type 0
OwedIsEnough = (given : Opening) (events : List Event) → IsAccepted given → IsValid given.c0 → ((z : ℕ) → AgentsOwe given z events) → AllKeepSides given events
