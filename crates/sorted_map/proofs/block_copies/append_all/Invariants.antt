use Rattle.sorted_map.proofs.Vocabulary.{◌≡◌, ◌++◌, take, joined}
use Rattle.sorted_map.proofs.block_copies.append_all.Given as goal

abbrev pub invariant-loop-block : goal.invariant-loop-block
invariant-loop-block g l = l.out.items ≡ l.fn.out.items ++ joined (take l.block-index l.rest)
