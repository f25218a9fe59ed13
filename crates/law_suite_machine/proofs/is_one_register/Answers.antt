use Rattle.law_suite_machine.proofs.Conclusions.{one_register}
use Rattle.law_suite_machine.proofs.is_one_register.Goals as goal

pub returns : goal.returns
returns c = one_register
