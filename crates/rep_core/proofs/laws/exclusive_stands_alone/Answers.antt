use Rattle.rep_core.proofs.Reached.{exclusive_alone}
use Rattle.rep_core.proofs.laws.exclusive_stands_alone.Goals as goal

pub returns : goal.returns
returns c = exclusive_alone
