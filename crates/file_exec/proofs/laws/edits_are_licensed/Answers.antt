use Rattle.file_exec.proofs.Licensing.{edits_are_licensed}
use Rattle.file_exec.proofs.laws.edits_are_licensed.Goals as goal

pub returns : goal.returns
returns c = edits_are_licensed
