-- A node leads on to the next older one.
use Rattle.recency.proofs.Vocabulary.{ℕ, ◌+◌, true, nat_lt, option_map, ap, ◌∙◌, arith, sym, subst, vec_ptr, then_some, older_in, newer_in, In, Mark, Listed, keys, listed_in, older_than}
use Rattle.recency.proofs.Order.{next_is}
use Rattle.recency.proofs.Steps.{leads_older, older_slot, used_below}
use Rattle.recency.proofs.rings.Rings.older.Goals as goal

pub place_of-here-requires : goal.place_of-here-requires
place_of-here-requires c =
    let i = c.self.inside in
    used_below i.slots i.nodes _ _ c.self.invariant c.args.slot (subst (λ (t : Listed). In c.args.slot (keys t.order)) (sym c.self.view_is) c.requires)

pub look-requires-2 : goal.look-requires-2
look-requires-2 c =
    let i = c.self.inside in
    let below = c.self.invariant.ringed.all_below c.args.slot (subst (λ (t : Listed). In c.args.slot (keys t.order)) (sym c.self.view_is) c.requires) in
    leads_older i.slots i.nodes _ _ c.self.invariant c.place_of-here.result.ptr c.look.result.now c.args.slot (omega arith) c.place_of-here.ensures.node c.place_of-here.ensures.index c.look.ensures

pub returns : goal.returns
returns c =
    let i = c.self.inside in
    let base = vec_ptr i.nodes in
    let order = (listed_in i.slots base i.nodes.items).order in
    let there : In c.args.slot (keys order) = subst (λ (t : Listed). In c.args.slot (keys t.order)) (sym c.self.view_is) c.requires in
    let below = c.self.invariant.ringed.all_below c.args.slot there in
    let s = older_slot i.slots i.nodes _ _ c.self.invariant c.place_of-here.result.ptr c.look.result.now c.look-2.result.now c.args.slot
    (omega arith) c.place_of-here.ensures.node c.place_of-here.ensures.index c.look.ensures c.look-2.ensures in
    c.then_some.ensures ∙ ap (λ (k : ℕ). then_some (nat_lt k i.slots) k) s
    ∙ next_is (older_in true base i.nodes.items) (newer_in true base i.nodes.items) i.slots c.args.slot (i.slots + 17) (i.slots + 17) order c.self.invariant.ringed.all_path (omega arith) c.self.invariant.ringed.all_below there
    ∙ ap (λ (t : Listed). option_map (λ (e : Mark). e.0) (older_than c.args.slot t.order)) c.self.view_is
