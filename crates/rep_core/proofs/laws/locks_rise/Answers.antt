use Rattle.rep_core.proofs.Reached.{locks_rise}
use Rattle.rep_core.proofs.laws.locks_rise.Goals as goal

pub returns : goal.returns
returns c = locks_rise
