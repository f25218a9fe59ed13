-- The plain table takes the decided transactions of a run, one at a time, in the order of their decisions.
use Rattle.std.specs.Prelude.{◌≡◌, List, [], ◌∷◌, Result}
use Rattle.suite_prefix.specs.SettingsRules.{Opening}
use Rattle.file_ops.specs.declared.refusal.Refusal.{Refusal}
use Rattle.file_ops.specs.Rows as rows
use Rattle.file_ops.specs.Rows.{PlainTable}
use Rattle.file_ops.specs.Transactions.{Played, transaction, replies, table_after}
use Rattle.run_core.specs.declared.event.Event.{Event}
use Rattle.run_core.specs.Decisions.{Decided, decisions}

-- what a transaction comes to on a table
abbrev pub played_on : PlainTable → Decided → Result Played Refusal
played_on table one = transaction table.service table.rows one.t one.caller one.ops

abbrev pub table_with : PlainTable → Decided → PlainTable
table_with table one = table_after table one.t one.caller (played_on table one)

-- a table after these transactions
abbrev pub table_after_all : PlainTable → List Decided → PlainTable
table_after_all table [] = table
table_after_all table (one ∷ later) = table_after_all (table_with table one) later

-- the table of a run
abbrev pub table_of : Opening → List Event → PlainTable
table_of given events = table_after_all (rows.opening given) (decisions given events)

-- each of these transactions was answered as the table answers it, at its place in the order
abbrev pub AnswersAreTheTables : PlainTable → List Decided → Type 0
AnswersAreTheTables table [] = Unit {0}
AnswersAreTheTables table (one ∷ later) = (one.answer ≡ replies (played_on table one)) × AnswersAreTheTables (table_with table one) later
