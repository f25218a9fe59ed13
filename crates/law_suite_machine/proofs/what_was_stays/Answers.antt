use Rattle.law_suite_machine.proofs.Conclusions.{what_was_stays}
use Rattle.law_suite_machine.proofs.what_was_stays.Goals as goal

pub returns : goal.returns
returns c = what_was_stays
