use Rattle.rep_core.proofs.Vocabulary.{◌≡◌, drop, in_the_way}
use Rattle.rep_core.proofs.few_locks.first_in_the_way.Given as goal

abbrev pub invariant-loop-lock : goal.invariant-loop-lock
invariant-loop-lock l = in_the_way l.t l.suite l.mode (drop l.lock-index l.locks) ≡ in_the_way l.t l.suite l.mode l.locks
