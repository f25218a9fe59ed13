use Rattle.sorted_map.proofs.Vocabulary.{◌++◌, ◌∙◌, ap, insert}
use Rattle.sorted_map.proofs.InBlocks.{above_end}
use Rattle.sorted_map.proofs.blocks.put_parted.Goals as goal

pub returns-then-is_above-clause-pairs : goal.returns-then-is_above-clause-pairs
returns-then-is_above-clause-pairs g c =
    ap (λ l. c.args.block.now.pairs ++ l) (c.insert_in_room.ensures.pairs ∙ ap (λ es. insert g.K.Ord.cmp es c.args.key c.args.value) c.requires.spare.0)
    ∙ above_end g.met.K.Ord.total c.args.key c.args.block.now.pairs c.args.value (c.is_above.ensures c.if-is_above.true)
