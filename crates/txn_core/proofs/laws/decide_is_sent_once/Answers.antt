use Rattle.txn_core.proofs.Once.{decide_is_sent_once}
use Rattle.txn_core.proofs.laws.decide_is_sent_once.Goals as goal

pub returns : goal.returns
returns c = decide_is_sent_once
