use Rattle.std.proofs.Common.{sym, ◌∙◌, ◌+◌, arith}
use Rattle.rep_core.proofs.LockEdits.{ready_none, ready_here, ready_behind, ready_end, next_above, next_numbered}
use Rattle.rep_core.proofs.many_locks.ManyLocks.has_prepared.Goals as goal

pub returns-then-lock : goal.returns-then-lock
returns-then-lock c = sym (ready_here c.args.t c.loop-lock.from c.args.self.now.locks c.in-Some.lock (sym c.in-Some.ensures.next) c.if-lock.true) ∙ c.loop-lock.invariant

pub returns-then-lock-2 : goal.returns-then-lock-2
returns-then-lock-2 c =
    let locks = c.args.self.now.locks in
    let lock = c.in-Some.lock in
    sym (ready_behind c.args.t c.loop-lock.from locks lock c.next_of.ensures.rising (sym c.in-Some.ensures.next) c.if-lock.false
    ∙ ready_end c.args.t (lock.suite + 1) locks c.next_of.ensures.few (omega (arith, c.if-lock-2.true)))
    ∙ c.loop-lock.invariant

pub loop-lock-smaller : goal.loop-lock-smaller
loop-lock-smaller c =
    let above = next_above c.args.t c.loop-lock.from c.args.self.now.locks c.in-Some.lock (sym c.in-Some.ensures.next) in
    let below = next_numbered c.args.t c.loop-lock.from c.args.self.now.locks c.in-Some.lock c.next_of.ensures.few (sym c.in-Some.ensures.next) in
    omega (arith, above, below)

pub loop-lock-preserved : goal.loop-lock-preserved
loop-lock-preserved c =
    sym (ready_behind c.args.t c.loop-lock.from c.args.self.now.locks c.in-Some.lock c.next_of.ensures.rising (sym c.in-Some.ensures.next) c.if-lock.false) ∙ c.loop-lock.invariant

pub returns : goal.returns
returns c = sym (ready_none c.args.t c.loop-lock.from c.args.self.now.locks (sym c.next_of.ensures.next ∙ c.in_default.is)) ∙ c.loop-lock.invariant
