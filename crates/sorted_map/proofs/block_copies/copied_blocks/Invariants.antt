use Rattle.sorted_map.proofs.Vocabulary.{◌≡◌, take, joined, AreBlocks}
use Rattle.sorted_map.proofs.block_copies.copied_blocks.Given as goal

abbrev pub invariant-loop-block : goal.invariant-loop-block
invariant-loop-block g l = record {
  pairs : joined l.copies.items ≡ joined (take l.block-index l.rest);
  blocks : AreBlocks l.copies.items;
}
