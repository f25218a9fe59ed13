use Rattle.std.proofs.Common.{◌≡◌, ◌+◌, ◌≤◌, length}
use Rattle.suite_history.specs.Histories.{heard_from, nothing}
use Rattle.suite_history.specs.code.Readings.{heard_in}
use Rattle.suite_history.proofs.history.hear_all.Given as goal

abbrev pub invariant-loop-line : goal.invariant-loop-line
invariant-loop-line l = record {
  same : heard_from (heard_in l.hearing) l.number l.lines ≡ heard_from nothing 1 l.fn.lines;
  few : length l.hearing.calls.items + length l.lines ≤ length l.fn.lines;
  room : l.number + length l.lines ≤ length l.fn.lines + 1;
}

abbrev pub decreases-loop-line : goal.decreases-loop-line
decreases-loop-line l = length l.lines
