use Rattle.suite_prefix.proofs.Vocabulary.{◌≡◌, ◌+◌, ◌≤◌, ◌++◌, length, vec_len, vec_capacity}
use Rattle.suite_prefix.proofs.shapes.Names.folder.Given as goal

abbrev pub invariant-loop-name : goal.invariant-loop-name
invariant-loop-name l = record {
  so_far : l.pairs.items ++ l.others ≡ l.self;
  room : vec_len l.pairs + length l.others ≤ vec_capacity l.pairs;
}

abbrev pub decreases-loop-name : goal.decreases-loop-name
decreases-loop-name l = length l.others
