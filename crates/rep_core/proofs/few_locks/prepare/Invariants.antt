use Rattle.rep_core.proofs.Vocabulary.{◌≡◌, ◌++◌, take, drop, with_prepared}
use Rattle.rep_core.proofs.few_locks.prepare.Given as goal

abbrev pub invariant-loop-i : goal.invariant-loop-i
invariant-loop-i l = l.locks ≡ with_prepared l.t l.parts (take l.i l.fn.locks) ++ drop l.i l.fn.locks
