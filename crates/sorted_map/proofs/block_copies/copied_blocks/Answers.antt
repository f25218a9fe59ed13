use Rattle.sorted_map.proofs.Vocabulary.{◌≡◌, ◌+◌, ◌<◌, ◌++◌, suc, take, get_or, length, subst, sym, ◌∙◌, ap, arith, joined, AreBlocks}
use Rattle.sorted_map.proofs.InBlocks.{joined_more, joined_pushed, blocks_pushed, block_of}
use Rattle.sorted_map.proofs.block_copies.copied_blocks.Goals as goal

pub loop-block-preserved : goal.loop-block-preserved
loop-block-preserved g c =
    let rest = c.args.rest.now in
    let i = c.loop-block.block-index in
    let b = c.block-item.result in
    let copies = c.loop-block.copies.items in
    let copy = c.in_ok-copied.field-0 in
    let within = c.loop-block-test.true in
    let e : i + 1 ≡ suc i = omega arith in
    let same : copy.pairs ≡ (get_or rest i b).pairs = c.in_ok-copied.ensures.pairs ∙ ap (λ x. x.pairs) c.block-item.is in
    let some : 0 < length copy.pairs = subst (λ l. 0 < length l) (sym same) (block_of rest i b c.requires.blocks within).0 in
    record {
      pairs = ap joined c.in_ok-push.ensures.items
          ∙ joined_pushed copies copy
          ∙ ap (λ l. l ++ copy.pairs) c.loop-block.invariant.pairs
          ∙ ap (λ l. joined (take i rest) ++ l) same
          ∙ sym (joined_more rest i b within)
          ∙ ap (λ k. joined (take k rest)) (sym e);
      blocks = subst AreBlocks (sym c.in_ok-push.ensures.items) (blocks_pushed copies copy c.loop-block.invariant.blocks (some, omega (arith, c.in_ok-copied.ensures.room)));
    }
