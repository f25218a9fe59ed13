use Rattle.law_suite_machine.proofs.Conclusions.{always_superseded}
use Rattle.law_suite_machine.proofs.replaced_is_superseded.Goals as goal

pub returns : goal.returns
returns c = always_superseded
