use Rattle.rep_core.proofs.Vocabulary.{◌<◌, length, sym, ap, subst, ◌∙◌, released}
use Rattle.rep_core.proofs.LockEdits.{released_on, released_all, released_one}
use Rattle.rep_core.proofs.many_locks.ManyLocks.release.Goals as goal

pub loop-lock-smaller : goal.loop-lock-smaller
loop-lock-smaller c = subst (λ left. length left < length c.loop-lock.self.locks) (sym c.let_go.ensures.locks) (released_one c.args.t c.loop-lock.self.locks c.in-Some.lock (sym c.in-Some.ensures.next))

pub loop-lock-preserved : goal.loop-lock-preserved
loop-lock-preserved c = ap (released c.args.t) c.let_go.ensures.locks ∙ released_on c.args.t c.in-Some.lock.suite c.loop-lock.self.locks ∙ c.loop-lock.invariant

pub returns : goal.returns
returns c = sym (released_all c.args.t c.loop-lock.self.locks (sym c.next_of.ensures.next ∙ c.in_default.is)) ∙ c.loop-lock.invariant
