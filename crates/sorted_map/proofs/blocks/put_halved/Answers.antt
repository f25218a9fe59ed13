use Rattle.sorted_map.proofs.Vocabulary.{◌<◌, ◌++◌, length, subst, sym, ◌∙◌, ap, arith, take-append-drop, length-drop, length-take}
use Rattle.sorted_map.proofs.InBlocks.{halved_upper, halved_lower, insert_some, put_capacity}
use Rattle.sorted_map.proofs.blocks.put_halved.Goals as goal

pub returns-then-starts-clause-pairs : goal.returns-then-starts-clause-pairs
returns-then-starts-clause-pairs g c =
    let lower = c.halve.ensures.lower in
    let upper = c.halve.ensures.upper in
    let parts = (λ i. lower i ++ upper i) ∙ take-append-drop c.lower_half-keep.result c.args.block.now.pairs in
    let some : 0 < length c.halve.new.upper.pairs = omega (arith, ap length upper, length-drop c.lower_half-keep.result c.args.block.now.pairs, c.len.ensures.len, c.lower_half-keep.ensures.fewer) in
    ap (λ l. c.halve.new.self.pairs ++ l) c.insert_in_room.ensures.pairs
    ∙ halved_upper g.met.K.Ord.total c.args.key c.halve.new.self.pairs c.halve.new.upper.pairs c.args.block.now.pairs c.args.value parts c.halve.ensures.was_ordered some (sym c.starts.ensures ∙ c.if-starts.true)

pub returns-else-starts-clause-pairs : goal.returns-else-starts-clause-pairs
returns-else-starts-clause-pairs g c =
    let lower = c.halve.ensures.lower in
    let upper = c.halve.ensures.upper in
    let parts = (λ i. lower i ++ upper i) ∙ take-append-drop c.lower_half-keep.result c.args.block.now.pairs in
    let some : 0 < length c.halve.new.upper.pairs = omega (arith, ap length upper, length-drop c.lower_half-keep.result c.args.block.now.pairs, c.len.ensures.len, c.lower_half-keep.ensures.fewer) in
    ap (λ l. l ++ c.halve.new.upper.pairs) c.insert_in_room-else-starts.ensures.pairs
    ∙ halved_lower g.met.K.Ord.total c.args.key c.halve.new.self.pairs c.halve.new.upper.pairs c.args.block.now.pairs c.args.value parts c.halve.ensures.was_ordered some (sym c.starts.ensures ∙ c.if-starts.false)

pub returns-else-starts-clause-lower : goal.returns-else-starts-clause-lower
returns-else-starts-clause-lower g c =
    let put = c.insert_in_room-else-starts in
    let more = put_capacity g.met.K.Ord.total c.args.key c.halve.new.self put.new.self c.args.value put.result put.ensures.was_ordered put.ensures.before put.ensures.pairs put.ensures.room in (
      subst (λ l. 0 < length l) (sym put.ensures.pairs) (insert_some g.met.K.Ord.total c.args.key c.halve.new.self.pairs c.args.value),
      omega (arith, more, c.halve.ensures.lower_room, ap length c.halve.ensures.lower, length-take c.lower_half-keep.result c.args.block.now.pairs, c.len.ensures.len, c.lower_half-keep.ensures.fewer),
    )
