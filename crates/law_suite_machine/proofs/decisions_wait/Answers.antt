use Rattle.law_suite_machine.proofs.Licences.{decisions_wait}
use Rattle.law_suite_machine.proofs.decisions_wait.Goals as goal

pub returns : goal.returns
returns c = decisions_wait
