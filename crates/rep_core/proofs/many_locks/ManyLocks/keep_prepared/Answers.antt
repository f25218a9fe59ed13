use Rattle.rep_core.proofs.Vocabulary.{◌<◌, length, sym, ap, subst, ◌∙◌, prepared_locks}
use Rattle.rep_core.proofs.LockEdits.{crashed_on, crashed_one}
use Rattle.rep_core.proofs.many_locks.ManyLocks.keep_prepared.Goals as goal

pub loop-t-smaller : goal.loop-t-smaller
loop-t-smaller c = subst (λ left. length left < length c.loop-t.self.locks) (sym c.let_go.ensures.locks) (crashed_one c.in-Some.t c.in-Some.suite c.loop-t.self.locks c.let_go.ensures.was_rising c.in-Some.ensures)

pub loop-t-preserved : goal.loop-t-preserved
loop-t-preserved c = ap prepared_locks c.let_go.ensures.locks ∙ crashed_on c.in-Some.t c.in-Some.suite c.loop-t.self.locks c.let_go.ensures.was_rising c.in-Some.ensures ∙ c.loop-t.invariant
