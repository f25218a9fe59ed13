use Rattle.rep_core.proofs.Vocabulary.{◌≡◌, length, prepared_locks}
use Rattle.rep_core.proofs.many_locks.ManyLocks.keep_prepared.Given as goal

abbrev pub invariant-loop-t : goal.invariant-loop-t
invariant-loop-t l = prepared_locks l.self.locks ≡ prepared_locks l.fn.self.locks

abbrev pub decreases-loop-t : goal.decreases-loop-t
decreases-loop-t l = length l.self.locks
