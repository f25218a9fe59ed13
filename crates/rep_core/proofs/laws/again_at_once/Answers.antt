use Rattle.rep_core.proofs.Again.{again_at_once}
use Rattle.rep_core.proofs.laws.again_at_once.Goals as goal

pub returns : goal.returns
returns c = again_at_once
