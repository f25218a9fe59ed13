use Rattle.law_suite_machine.proofs.Conclusions.{always_stand}
use Rattle.law_suite_machine.proofs.locks_stand.Goals as goal

pub returns : goal.returns
returns c = always_stand
