use Rattle.law_run_alone.proofs.Endings.{endings_are_the_tables}
use Rattle.law_run_alone.proofs.endings_are_the_tables.Goals as goal

pub returns : goal.returns
returns c = endings_are_the_tables
