use Rattle.law_suite_machine.proofs.Worked.{some_run_obeys}
use Rattle.law_suite_machine.proofs.some_run_obeys.Goals as goal

pub returns : goal.returns
returns c = some_run_obeys
