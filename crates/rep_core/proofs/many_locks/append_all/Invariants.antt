use Rattle.rep_core.proofs.Vocabulary.{◌≡◌, ◌++◌, drop, locks_of}
use Rattle.rep_core.proofs.many_locks.append_all.Given as goal

abbrev pub invariant-loop-pair : goal.invariant-loop-pair
invariant-loop-pair l = l.out.items ++ locks_of (drop l.pair-index l.pairs) ≡ l.fn.out.items ++ locks_of l.pairs
