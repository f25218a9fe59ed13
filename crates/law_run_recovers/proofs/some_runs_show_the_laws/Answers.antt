use Rattle.law_run_recovers.proofs.ToldWorked.{some_runs_show_the_laws}
use Rattle.law_run_recovers.proofs.some_runs_show_the_laws.Goals as goal

pub returns : goal.returns
returns c = some_runs_show_the_laws
