use Rattle.std.proofs.lemmas.Fn.{always_returns_same}
use Rattle.std.proofs.Common.{rules}
use Rattle.sorted_map.proofs.Place.{searched}
use Rattle.sorted_map.proofs.roomy.RoomyMap.search.Goals as goal

-- the closure compares a pair's key, and the slice is the map's pairs
pub returns : goal.returns
returns g c =
    let facts = c.binary_search_by.ensures in
    let by_key = facts.position (λ pair. g.K.Ord.cmp pair.0 c.args.key.now) (always_returns_same _ _ _ (λ a r f' called. search rules)) in
    let ordered = rw (← c.deref.ensures.value) at c.self.invariant in
    let found = searched g.met.K.Ord.total c.args.key.now c.deref.result.now ordered c.binary_search_by.result facts.bound by_key in
    rw (← c.self.view_is, ← c.deref.ensures.value) record { found = found.found; absent = found.absent; ordered = ordered }
