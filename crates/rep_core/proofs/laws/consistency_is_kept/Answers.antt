use Rattle.rep_core.proofs.Consistent.{consistency_is_kept}
use Rattle.rep_core.proofs.laws.consistency_is_kept.Goals as goal

pub returns : goal.returns
returns c = consistency_is_kept
