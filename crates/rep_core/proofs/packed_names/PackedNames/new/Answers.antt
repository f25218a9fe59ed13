use Rattle.rep_core.proofs.Vocabulary.{◌≡◌, length, sym, ap, subst, ◌∙◌, parts, AreInOrder}
use Rattle.rep_core.proofs.PackedNames.{parts_of_all}
use Rattle.rep_core.proofs.packed_names.PackedNames.new.Goals as goal

pub invariant_of-result : goal.invariant_of-result
invariant_of-result c =
    let names = c.args.list.now in
    let order : AreInOrder names = c.are_in_order.ensures c.if-not-are_in_order.false in
    let same : parts c.in_ok-text.text ≡ names = ap parts (c.in_ok-text.ensures.value ∙ c.requires.text) ∙ parts_of_all names c.requires.some order.each in
    (c.len.ensures ∙ ap length (sym same), subst AreInOrder (sym same) order)

pub returns : goal.returns
returns c =
    let names = c.args.list.now in
    let order : AreInOrder names = c.are_in_order.ensures c.if-not-are_in_order.false in
    ap parts (c.in_ok-text.ensures.value ∙ c.requires.text) ∙ parts_of_all names c.requires.some order.each
