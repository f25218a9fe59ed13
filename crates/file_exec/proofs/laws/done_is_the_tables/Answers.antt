use Rattle.file_exec.proofs.More.{done_is_the_tables}
use Rattle.file_exec.proofs.laws.done_is_the_tables.Goals as goal

pub returns : goal.returns
returns c = done_is_the_tables
