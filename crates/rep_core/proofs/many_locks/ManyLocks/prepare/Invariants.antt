use Rattle.rep_core.proofs.Vocabulary.{◌≡◌, drop, with_prepared}
use Rattle.rep_core.proofs.many_locks.ManyLocks.prepare.Given as goal

abbrev pub invariant-loop-part : goal.invariant-loop-part
invariant-loop-part l = with_prepared l.t (drop l.part-index l.parts) l.self.locks ≡ with_prepared l.t l.parts l.fn.self.locks
