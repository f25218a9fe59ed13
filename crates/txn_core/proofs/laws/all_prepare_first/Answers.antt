use Rattle.txn_core.proofs.Ready.{all_prepare_first}
use Rattle.txn_core.proofs.laws.all_prepare_first.Goals as goal

pub returns : goal.returns
returns c = all_prepare_first
