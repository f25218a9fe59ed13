use Rattle.txn_core.proofs.Vocabulary.{sym, subst, Limited, HasUnused}
use Rattle.txn_core.proofs.Unused.{unused_forgotten}
use Rattle.txn_core.proofs.agent.Agent.forget.Goals as goal

pub invariant_of-self : goal.invariant_of-self
invariant_of-self c =
    let kept = c.self.invariant in
    let Unused : Limited → Type 0 = λ cache. HasUnused cache.entries in
    record { index = kept.index; jobs = kept.jobs; servers = kept.servers; unused = subst Unused (sym c.forget.ensures) (unused_forgotten c.args.site c.self.inside.resources.cache.entries kept.unused); reached = kept.reached }
