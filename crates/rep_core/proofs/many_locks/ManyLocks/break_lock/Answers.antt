use Rattle.std.proofs.Common.{sym, ◌∙◌}
use Rattle.rep_core.proofs.LockEdits.{broken_loose, broken_tight}
use Rattle.rep_core.proofs.many_locks.ManyLocks.break_lock.Goals as goal

pub returns-then-is_loose : goal.returns-then-is_loose
returns-then-is_loose c = c.let_go.ensures.locks ∙ broken_loose c.args.t c.args.suite c.args.self.now.locks c.is_loose.ensures.rising (sym c.is_loose.ensures.loose ∙ c.if-is_loose.true)

pub returns-else-is_loose : goal.returns-else-is_loose
returns-else-is_loose c = broken_tight c.args.t c.args.suite c.args.self.now.locks c.is_loose.ensures.rising (sym c.is_loose.ensures.loose ∙ c.if-is_loose.false)
