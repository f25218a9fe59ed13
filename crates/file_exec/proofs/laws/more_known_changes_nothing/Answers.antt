use Rattle.file_exec.proofs.More.{more_known_changes_nothing}
use Rattle.file_exec.proofs.laws.more_known_changes_nothing.Goals as goal

pub returns : goal.returns
returns c = more_known_changes_nothing
