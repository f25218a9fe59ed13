use Rattle.txn_core.proofs.ContentsKnown.{knows_contents}
use Rattle.txn_core.proofs.laws.knows_contents.Goals as goal

pub returns : goal.returns
returns c = knows_contents
