use Rattle.file_exec.proofs.Leading.{changes_by_suite}
use Rattle.file_exec.proofs.laws.changes_by_suite.Goals as goal

pub returns : goal.returns
returns c = changes_by_suite
