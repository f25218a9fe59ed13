use Rattle.law_run_recovers.proofs.Swept.{sweeps_leave_doubts}
use Rattle.law_run_recovers.proofs.sweeps_leave_doubts.Goals as goal

pub returns : goal.returns
returns c = sweeps_leave_doubts
