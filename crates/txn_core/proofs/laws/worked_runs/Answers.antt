use Rattle.txn_core.proofs.Runs.{worked_runs}
use Rattle.txn_core.proofs.laws.worked_runs.Goals as goal

pub returns : goal.returns
returns c = worked_runs
