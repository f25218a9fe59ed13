use Rattle.file_exec.proofs.Unmet.{needs_what_is_unmet}
use Rattle.file_exec.proofs.laws.needs_what_is_unmet.Goals as goal

pub returns : goal.returns
returns c = needs_what_is_unmet
