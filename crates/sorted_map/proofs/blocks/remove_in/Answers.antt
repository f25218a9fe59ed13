use Rattle.sorted_map.proofs.Vocabulary.{sym, ◌∙◌, ap, arith, get, remove, joined, capacity_in}
use Rattle.sorted_map.proofs.InBlocks.{get_at, remove_at, removed_capacity, joined_dropped, blocks_set, block_of, in_range, none_in}
use Rattle.sorted_map.proofs.blocks.remove_in.Goals as goal

pub returns-then-len-eq0-clause-before : goal.returns-then-len-eq0-clause-before
returns-then-len-eq0-clause-before g c =
    c.remove-value.ensures.before ∙ ap (λ b. get g.K.Ord.cmp b.pairs c.args.key.now) c.index_mut-block.ensures.value ∙ sym
    (get_at g.met.K.Ord.total c.args.key.now c.args.rest.now.items c.args.at c.index_mut-block.result.now c.requires.place)

pub returns-else-len-eq0-clause-before : goal.returns-else-len-eq0-clause-before
returns-else-len-eq0-clause-before g c =
    c.remove-value.ensures.before ∙ ap (λ b. get g.K.Ord.cmp b.pairs c.args.key.now) c.index_mut-block.ensures.value ∙ sym
    (get_at g.met.K.Ord.total c.args.key.now c.args.rest.now.items c.args.at c.index_mut-block.result.now c.requires.place)

pub returns-then-len-eq0-clause-pairs : goal.returns-then-len-eq0-clause-pairs
returns-then-len-eq0-clause-pairs g c =
    let o = g.met.K.Ord.total in
    let rest = c.args.rest.now.items in
    ap joined c.remove.ensures.items
    ∙ joined_dropped rest c.args.at c.remove-value.new.self (none_in _ (sym c.len.ensures.len ∙ c.if-len-eq0.true)) (in_range o c.args.key.now rest c.args.at c.requires.place)
    ∙ remove_at o c.args.key.now rest c.args.at c.index_mut-block.result.now c.remove-value.new.self c.requires.place (c.remove-value.ensures.pairs ∙ ap (λ b. remove g.K.Ord.cmp b.pairs c.args.key.now) c.index_mut-block.ensures.value)

pub returns-else-len-eq0-clause-pairs : goal.returns-else-len-eq0-clause-pairs
returns-else-len-eq0-clause-pairs g c =
    remove_at g.met.K.Ord.total c.args.key.now c.args.rest.now.items c.args.at c.index_mut-block.result.now c.remove-value.new.self c.requires.place
    (c.remove-value.ensures.pairs ∙ ap (λ b. remove g.K.Ord.cmp b.pairs c.args.key.now) c.index_mut-block.ensures.value)

pub returns-else-len-eq0-clause-blocks : goal.returns-else-len-eq0-clause-blocks
returns-else-len-eq0-clause-blocks g c =
    let o = g.met.K.Ord.total in
    let rest = c.args.rest.now.items in
    let old = c.index_mut-block.result.now in
    let was = block_of rest c.args.at old c.requires.blocks (in_range o c.args.key.now rest c.args.at c.requires.place) in
    let room = removed_capacity o c.args.key.now old c.remove-value.new.self c.remove-value.result c.remove-value.ensures.before c.remove-value.ensures.pairs c.remove-value.ensures.room in
    blocks_set rest c.args.at c.remove-value.new.self c.requires.blocks (omega (arith, c.len.ensures.len, c.if-len-eq0.false), omega (arith, room, was.1, ap capacity_in c.index_mut-block.ensures.value))
