use Rattle.std.proofs.Common.{sym}
use Rattle.sorted_map.proofs.InBlocks.{below_none}
use Rattle.sorted_map.proofs.blocks.is_above.Goals as goal

pub returns-in-None : goal.returns-in-None
returns-in-None g c = λ is. below_none g.met.K.Ord.total c.args.key.now c.args.block.now.pairs (sym c.in-None.ensures.first)
