use Rattle.sorted_map.proofs.Vocabulary.{◌∷◌, length, sym, ◌∙◌, ap, first_from}
use Rattle.sorted_map.proofs.InBlocks.{first_at, first_next, first_end, either}
use Rattle.sorted_map.proofs.blocks.first_in.Goals as goal

pub returns-in-Some : goal.returns-in-Some
returns-in-Some g c =
    let cmp = g.K.Ord.cmp in
    let all = c.args.first.now ∷ c.args.rest.now.items in
    let b = c.block_at.result.now in
    sym (first_at g.met.K.Ord.total c.args.key.now all c.place_in-at.result b c.in-Some.pair.now c.place_in-at.ensures.place (sym (ap (λ x. first_from cmp c.args.key.now x.pairs) c.block_at.ensures) ∙ sym c.in-Some.ensures.first))

pub returns-in-None : goal.returns-in-None
returns-in-None g c =
    let o = g.met.K.Ord.total in
    let key = c.args.key.now in
    let first = c.args.first.now in
    let rest = c.args.rest.now.items in
    let at = c.place_in-at.result in
    let b = c.block_at.result.now in
    let none = sym (ap (λ x. first_from g.K.Ord.cmp key x.pairs) c.block_at.ensures) ∙ sym c.in-None.ensures.first in
    either at (length rest)
    (λ within. c.start_at.ensures.some b within ∙ sym (first_next o key first rest at b c.place_in-at.ensures.place c.requires.blocks none within))
    (λ end. c.start_at.ensures.none end ∙ sym (first_end o key first rest at b c.place_in-at.ensures.place none end))
