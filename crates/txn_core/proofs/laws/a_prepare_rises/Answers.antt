use Rattle.txn_core.proofs.PrepareParts.{a_prepare_rises}
use Rattle.txn_core.proofs.laws.a_prepare_rises.Goals as goal

pub returns : goal.returns
returns c = a_prepare_rises
