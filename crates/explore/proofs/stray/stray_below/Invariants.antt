use Rattle.explore.proofs.Vocabulary.{◌≡◌, ◌+◌, length, stray_below}
use Rattle.explore.proofs.stray.stray_below.Given as goal

abbrev pub invariant-loop-line : goal.invariant-loop-line
invariant-loop-line l = record {
  same : stray_below l.number l.lines ≡ stray_below l.fn.number l.fn.lines;
  room : l.number + length l.lines ≡ l.fn.number + length l.fn.lines;
}

abbrev pub decreases-loop-line : goal.decreases-loop-line
decreases-loop-line l = length l.lines
