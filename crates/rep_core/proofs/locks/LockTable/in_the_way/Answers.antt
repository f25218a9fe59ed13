use Rattle.rep_core.proofs.Vocabulary.{sym, subst, ◌∙◌, IsAlone}
use Rattle.rep_core.proofs.TabledLocks.{many_only}
use Rattle.rep_core.proofs.locks.LockTable.in_the_way.Goals as goal

pub in_the_way-requires : goal.in_the_way-requires
in_the_way-requires c = subst IsAlone (many_only c.self.inside.few.items c.self.inside.many.locks c.self.invariant (sym c.is_empty.ensures ∙ c.if-is_empty.false)) c.self.invariant.alone
