use Rattle.file_exec.proofs.Reaching.{unbegun_is_reached}
use Rattle.file_exec.proofs.laws.unbegun_is_reached.Goals as goal

pub returns : goal.returns
returns c = unbegun_is_reached
