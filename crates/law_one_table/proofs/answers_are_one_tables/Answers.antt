use Rattle.law_one_table.proofs.Running.{answers_are_one_tables}
use Rattle.law_one_table.proofs.answers_are_one_tables.Goals as goal

pub returns : goal.returns
returns c = answers_are_one_tables
