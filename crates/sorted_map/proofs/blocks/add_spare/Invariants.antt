use Rattle.sorted_map.proofs.Vocabulary.{◌-◌, ◌≤◌, length, AreSpare}
use Rattle.sorted_map.proofs.blocks.add_spare.Given as goal

abbrev pub invariant-loop-spare : goal.invariant-loop-spare
invariant-loop-spare g l = record {
  spare : AreSpare l.spare.items;
  more : length l.fn.spare.items ≤ length l.spare.items;
  most : length l.fn.spare.items ≤ l.wanted → length l.spare.items ≤ l.wanted;
}

abbrev pub decreases-loop-spare : goal.decreases-loop-spare
decreases-loop-spare g l = l.wanted - length l.spare.items
