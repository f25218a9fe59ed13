use Rattle.std.specs.List.{each_same}
use Rattle.txn_core.proofs.servers.copied.Goals as goal

pub returns : goal.returns
returns c = each_same _ _ c.in_ok-copy.ensures.cases
