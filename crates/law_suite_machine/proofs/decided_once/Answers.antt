use Rattle.law_suite_machine.proofs.Conclusions.{always_once}
use Rattle.law_suite_machine.proofs.decided_once.Goals as goal

pub returns : goal.returns
returns c = always_once
