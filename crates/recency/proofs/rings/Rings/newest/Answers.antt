-- The head leads on to the newest.
use Rattle.recency.proofs.Vocabulary.{ℕ, ◌+◌, true, nat_lt, option_map, ap, ◌∙◌, arith, vec_ptr, then_some, older_in, newer_in, Mark, Listed, listed_in, first_of}
use Rattle.recency.proofs.Order.{first_is}
use Rattle.recency.proofs.Steps.{leads_older, older_slot}
use Rattle.recency.proofs.rings.Rings.newest.Goals as goal

pub look-requires-2 : goal.look-requires-2
look-requires-2 c =
    let i = c.self.inside in
    leads_older i.slots i.nodes _ _ c.self.invariant c.place_of-all.result.ptr c.look.result.now (i.slots + 17) (omega arith) c.place_of-all.ensures.node c.place_of-all.ensures.index c.look.ensures

pub returns : goal.returns
returns c =
    let i = c.self.inside in
    let base = vec_ptr i.nodes in
    let s = older_slot i.slots i.nodes _ _ c.self.invariant c.place_of-all.result.ptr c.look.result.now c.look-2.result.now (i.slots + 17)
    (omega arith) c.place_of-all.ensures.node c.place_of-all.ensures.index c.look.ensures c.look-2.ensures in
    c.then_some.ensures ∙ ap (λ (k : ℕ). then_some (nat_lt k i.slots) k) s
    ∙ first_is (older_in true base i.nodes.items) (newer_in true base i.nodes.items) i.slots (i.slots + 17) (i.slots + 17)
    (listed_in i.slots base i.nodes.items).order c.self.invariant.ringed.all_path (omega arith) c.self.invariant.ringed.all_below
    ∙ ap (λ (t : Listed). option_map (λ (e : Mark). e.0) (first_of t.order)) c.self.view_is
