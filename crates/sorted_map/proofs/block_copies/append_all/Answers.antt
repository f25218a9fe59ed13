use Rattle.sorted_map.proofs.Vocabulary.{◌≡◌, ◌+◌, ◌++◌, suc, take, get_or, sym, ◌∙◌, ap, arith, joined}
use Rattle.sorted_map.proofs.InBlocks.{joined_more, joined_parts}
use Rattle.sorted_map.proofs.block_copies.append_all.Goals as goal

pub loop-block-preserved : goal.loop-block-preserved
loop-block-preserved g c =
    let out = c.args.out.now.items in
    let rest = c.args.rest.now in
    let i = c.loop-block.block-index in
    let b = c.block-item.result in
    let e : i + 1 ≡ suc i = omega arith in
    c.in_ok-extend_from_slice.ensures.items
    ∙ ap (λ l. l ++ c.as_slice.result.now) c.loop-block.invariant
    ∙ ap (λ l. (out ++ joined (take i rest)) ++ l) (c.as_slice.ensures.pairs ∙ ap (λ x. x.pairs) c.block-item.is)
    ∙ sym (joined_parts out (joined (take i rest)) (get_or rest i b).pairs)
    ∙ ap (λ l. out ++ l) (sym (joined_more rest i b c.loop-block-test.true))
    ∙ ap (λ k. out ++ joined (take k rest)) (sym e)
