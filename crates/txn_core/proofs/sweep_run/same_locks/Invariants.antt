use Rattle.std.proofs.Common.{take, ◌≡◌}
use Rattle.txn_core.proofs.sweep_run.same_locks.Given as goal

abbrev pub invariant-loop-i : goal.invariant-loop-i
invariant-loop-i l = take l.i l.own.items ≡ take l.i l.theirs.items
