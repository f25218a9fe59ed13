-- What the lines of a script print on a table.
use Rattle.std.specs.Prelude.{ℕ, List}
use Rattle.file_ops.specs.Rows.{PlainTable}
use Rattle.file_ops.specs.Transactions.{replies, table_after, transaction}
use Rattle.suite_cli.specs.Outputs.{outcome_line}
use Rattle.suite_cli.specs.Scripts.{Job}

-- the line of a transaction
abbrev pub line_of : PlainTable → ℕ → Job → List ℕ
line_of table number job = outcome_line number (replies (transaction table.service table.rows number job.caller job.ops))

-- the table after it
abbrev pub after_job : PlainTable → ℕ → Job → PlainTable
after_job table number job = table_after table number job.caller (transaction table.service table.rows number job.caller job.ops)
