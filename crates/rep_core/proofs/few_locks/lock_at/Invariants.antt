use Rattle.std.proofs.Common.{◌≡◌, drop}
use Rattle.rep_core.specs.Locks as locking
use Rattle.rep_core.proofs.few_locks.lock_at.Given as goal

abbrev pub invariant-loop-lock : goal.invariant-loop-lock
invariant-loop-lock l = locking.lock_at l.t l.suite (drop l.lock-index l.locks) ≡ locking.lock_at l.t l.suite l.locks
