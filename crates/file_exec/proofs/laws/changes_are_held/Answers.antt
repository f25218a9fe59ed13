use Rattle.file_exec.proofs.Unset.{changes_are_held}
use Rattle.file_exec.proofs.laws.changes_are_held.Goals as goal

pub returns : goal.returns
returns c = changes_are_held
