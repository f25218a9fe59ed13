use Rattle.law_suite_machine.proofs.Conclusions.{always_current}
use Rattle.law_suite_machine.proofs.quorums_show_the_row.Goals as goal

pub returns : goal.returns
returns c = always_current
