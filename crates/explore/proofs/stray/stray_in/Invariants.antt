use Rattle.explore.proofs.Vocabulary.{◌≡◌, ◌+◌, ◌≤◌, length, stray_above, stray_in}
use Rattle.explore.proofs.stray.stray_in.Given as goal

abbrev pub invariant-loop-line : goal.invariant-loop-line
invariant-loop-line l = record {
  same : stray_above l.number l.lines ≡ stray_in l.text;
  room : l.number + length l.lines ≤ length l.text + 1;
}

abbrev pub decreases-loop-line : goal.decreases-loop-line
decreases-loop-line l = length l.lines
