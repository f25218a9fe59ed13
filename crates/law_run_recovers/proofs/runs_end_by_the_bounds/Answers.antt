use Rattle.law_run_recovers.proofs.InTime.{runs_end_by_the_bounds}
use Rattle.law_run_recovers.proofs.runs_end_by_the_bounds.Goals as goal

pub returns : goal.returns
returns c = runs_end_by_the_bounds
