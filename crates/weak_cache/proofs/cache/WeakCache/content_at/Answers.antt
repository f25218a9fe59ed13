use Rattle.weak_cache.proofs.Searched.{within_searched}
use Rattle.weak_cache.proofs.cache.WeakCache.content_at.Goals as goal

pub invariant_of-self-2 : goal.invariant_of-self-2
invariant_of-self-2 c =
    rw c.search.ensures.entries (within_searched (record { budget = c.self.inside.budget; quota = c.self.inside.quota; slots = c.self.inside.slots }) c.args.site c.args.suite c.args.dver c.self.inside.entries c.self.invariant)
