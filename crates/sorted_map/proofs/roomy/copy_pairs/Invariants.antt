use Rattle.sorted_map.proofs.Vocabulary.{◌≡◌, ◌+◌, ◌++◌, take, vec_capacity, vec_len}
use Rattle.sorted_map.proofs.roomy.copy_pairs.Given as goal

abbrev pub invariant-loop-key : goal.invariant-loop-key
invariant-loop-key g l = record {
  items : l.out.items ≡ l.fn.out.items ++ take l.key-index l.pairs;
  len : vec_len l.out ≡ vec_len l.fn.out + l.key-index;
  capacity : vec_capacity l.out ≡ vec_capacity l.fn.out;
}
