use Rattle.law_run_machine.proofs.Jobs.{agents_are_of_jobs}
use Rattle.law_run_machine.proofs.agents_are_of_jobs.Goals as goal

pub returns : goal.returns
returns c = agents_are_of_jobs
