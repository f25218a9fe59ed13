use Rattle.explore.proofs.Vocabulary.{◌≡◌, ◌++◌, length, decided_jobs}
use Rattle.explore.proofs.order.push_decided.Given as goal

abbrev pub invariant-loop-left : goal.invariant-loop-left
invariant-loop-left l = record {
  printed : l.text.items ++ decided_jobs l.numbers l.left ≡ l.fn.text.items ++ decided_jobs l.numbers l.order;
}

abbrev pub decreases-loop-left : goal.decreases-loop-left
decreases-loop-left l = length l.left
