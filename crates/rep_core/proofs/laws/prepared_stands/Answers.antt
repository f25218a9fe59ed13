use Rattle.rep_core.proofs.Reached.{prepared_stand}
use Rattle.rep_core.proofs.laws.prepared_stands.Goals as goal

pub returns : goal.returns
returns c = prepared_stand
