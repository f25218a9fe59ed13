use Rattle.std.proofs.Common.{◌≡◌, ◌+◌, ◌≤◌, ◌++◌, length}
use Rattle.rep_core.proofs.locks.move_all.Given as goal

abbrev pub invariant-loop-lock : goal.invariant-loop-lock
invariant-loop-lock l = record {
  locks : l.few.items ++ l.many.locks ≡ l.fn.few.items ++ l.fn.many.locks;
  room : length l.few.items ≤ l.many.room;
  fewer : l.fn.many.room + length l.few.items ≤ l.many.room + length l.fn.few.items;
}

abbrev pub decreases-loop-lock : goal.decreases-loop-lock
decreases-loop-lock l = length l.few.items
