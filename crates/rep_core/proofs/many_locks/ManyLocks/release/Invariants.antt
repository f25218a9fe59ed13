use Rattle.rep_core.proofs.Vocabulary.{◌≡◌, length, released}
use Rattle.rep_core.proofs.many_locks.ManyLocks.release.Given as goal

abbrev pub invariant-loop-lock : goal.invariant-loop-lock
invariant-loop-lock l = released l.t l.self.locks ≡ released l.t l.fn.self.locks

abbrev pub decreases-loop-lock : goal.decreases-loop-lock
decreases-loop-lock l = length l.self.locks
