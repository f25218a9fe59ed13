use Rattle.law_suite_machine.proofs.Conclusions.{always_held}
use Rattle.law_suite_machine.proofs.locks_hold_copies.Goals as goal

pub returns : goal.returns
returns c = always_held
