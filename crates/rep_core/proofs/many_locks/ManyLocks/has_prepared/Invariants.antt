use Rattle.rep_core.proofs.Vocabulary.{◌≡◌, ◌-◌, ◌^◌, has_prepared}
use Rattle.rep_core.proofs.LockEdits.{has_ready}
use Rattle.rep_core.proofs.many_locks.ManyLocks.has_prepared.Given as goal

abbrev pub invariant-loop-lock : goal.invariant-loop-lock
invariant-loop-lock l = has_ready l.t l.from l.self.locks ≡ has_prepared l.t l.self.locks

abbrev pub decreases-loop-lock : goal.decreases-loop-lock
decreases-loop-lock l = 2 ^ 64 - l.from
