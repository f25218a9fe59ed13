use Rattle.law_headline.proofs.Conclusions.{rows_are_the_registers}
use Rattle.law_headline.proofs.rows_are_the_registers.Goals as goal

pub returns : goal.returns
returns c = rows_are_the_registers
