use Rattle.weak_cache.proofs.Fewer.{fewer_filter, within_fewer}
use Rattle.weak_cache.proofs.cache.WeakCache.forget.Goals as goal

pub invariant_of-self : goal.invariant_of-self
invariant_of-self c = rw c.forget.ensures (within_fewer _ _ c.self.inside.entries c.self.invariant (fewer_filter _ _))
