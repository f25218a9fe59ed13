use Rattle.suite_serve.proofs.Vocabulary.{◌≡◌, ◌+◌, length, togethers_from}
use Rattle.suite_serve.proofs.script.next_together.Given as goal

abbrev pub invariant-loop-line : goal.invariant-loop-line
invariant-loop-line l = record {
  same : togethers_from l.number l.lines ≡ togethers_from l.fn.number l.fn.lines;
  room : l.number + length l.lines ≡ l.fn.number + length l.fn.lines;
}

abbrev pub decreases-loop-line : goal.decreases-loop-line
decreases-loop-line l = length l.lines
