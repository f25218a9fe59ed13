use Rattle.rep_core.proofs.HeldStill.{again_later}
use Rattle.rep_core.proofs.laws.again_later.Goals as goal

pub returns : goal.returns
returns c = again_later
