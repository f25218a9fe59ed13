use Rattle.run_certify.proofs.Vocabulary.{◌≡◌, ◌≤◌, length, map, take, vec_capacity, can_be_full}
use Rattle.run_certify.proofs.fulls.full_ones.Given as goal

abbrev pub invariant-loop-history : goal.invariant-loop-history
invariant-loop-history l = record {
  are : l.full.items ≡ map can_be_full (take l.history-index l.histories);
  room : length l.histories ≤ vec_capacity l.full;
}
