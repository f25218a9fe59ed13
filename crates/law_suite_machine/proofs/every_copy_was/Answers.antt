use Rattle.law_suite_machine.proofs.Conclusions.{every_copy_was}
use Rattle.law_suite_machine.proofs.every_copy_was.Goals as goal

pub returns : goal.returns
returns c = every_copy_was
