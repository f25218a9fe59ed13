use Rattle.sorted_map.proofs.Vocabulary.{◌∷◌, ◌-◌, subst, sym, ◌∙◌, ap, arith, get, joined, IsIn}
use Rattle.sorted_map.proofs.InBlocks.{get_back, get_front, get_at, in_rest}
use Rattle.sorted_map.proofs.blocks.get_in.Goals as goal

pub returns-then-at-eq0 : goal.returns-then-at-eq0
returns-then-at-eq0 g c =
    let above = subst (IsIn g.K.Ord.cmp c.args.key.now (c.args.first.now ∷ c.args.rest.now.items)) c.if-at-eq0.true c.place_in-at.ensures.place in
    c.get.ensures ∙ sym (get_back g.met.K.Ord.total c.args.key.now c.args.first.now.pairs (joined c.args.rest.now.items) above)

pub returns-else-at-eq0 : goal.returns-else-at-eq0
returns-else-at-eq0 g c =
    let rest = c.args.rest.now.items in
    let at = c.place_in-at.result in
    let both = in_rest g.met.K.Ord.total c.args.key.now c.args.first.now rest at c.place_in-at.ensures.place (omega (arith, c.if-at-eq0.false)) in
    c.get-else-at-eq0.ensures
    ∙ ap (λ b. get g.K.Ord.cmp b.pairs c.args.key.now) c.index.ensures
    ∙ sym (get_front g.met.K.Ord.total c.args.key.now c.args.first.now.pairs (joined rest) both.0 ∙ get_at g.met.K.Ord.total c.args.key.now rest (at - 1) c.index.result.now both.1)
