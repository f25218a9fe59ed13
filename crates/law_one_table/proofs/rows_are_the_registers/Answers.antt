use Rattle.law_one_table.proofs.Running.{rows_are_the_registers}
use Rattle.law_one_table.proofs.rows_are_the_registers.Goals as goal

pub returns : goal.returns
returns c = rows_are_the_registers
