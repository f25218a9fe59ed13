use Rattle.file_exec.proofs.Running.{exec_runs}
use Rattle.file_exec.proofs.laws.exec_runs.Goals as goal

pub returns : goal.returns
returns c = exec_runs
