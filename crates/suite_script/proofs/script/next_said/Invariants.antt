use Rattle.suite_script.proofs.Vocabulary.{◌≡◌, ◌+◌, length, lines_from}
use Rattle.suite_script.proofs.script.next_said.Given as goal

abbrev pub invariant-loop-line : goal.invariant-loop-line
invariant-loop-line l = record {
  same : lines_from l.number l.lines ≡ lines_from l.fn.number l.fn.lines;
  room : l.number + length l.lines ≡ l.fn.number + length l.fn.lines;
}

abbrev pub decreases-loop-line : goal.decreases-loop-line
decreases-loop-line l = length l.lines
