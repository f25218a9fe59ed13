use Rattle.file_exec.proofs.Unmet.{sets_what_is_held}
use Rattle.file_exec.proofs.laws.sets_what_is_held.Goals as goal

pub returns : goal.returns
returns c = sets_what_is_held
