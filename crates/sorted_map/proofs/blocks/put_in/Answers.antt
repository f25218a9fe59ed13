use Rattle.sorted_map.proofs.Vocabulary.{◌≡◌, ◌+◌, ◌≤◌, suc, set, sym, subst, ◌∙◌, ap, arith, get, insert, joined, capacity_in}
use Rattle.std.specs.List as list
use Rattle.sorted_map.proofs.InBlocks.{get_at, insert_at, halves_at, block_of, in_range}
use Rattle.sorted_map.proofs.blocks.put_in.Goals as goal

pub put-before-requires-clause-room : goal.put-before-requires-clause-room
put-before-requires-clause-room g c =
    let o = g.met.K.Ord.total in
    let rest = c.args.rest.now.items in
    let b = c.index_mut.result.now in
    let is = c.index_mut.ensures.value in
    λ absent full. (
      c.requires.room (get_at o c.args.key rest c.args.at b c.requires.place ∙ ap (λ x. get g.K.Ord.cmp x.pairs c.args.key) (sym is) ∙ absent),
      subst (λ x. 2 ≤ capacity_in x) (sym is) (block_of rest c.args.at b c.requires.blocks (in_range o c.args.key rest c.args.at c.requires.place)).1,
    )

pub returns-in-Some-clause-before : goal.returns-in-Some-clause-before
returns-in-Some-clause-before g c =
    c.put-before.ensures.before_is ∙ ap (λ x. get g.K.Ord.cmp x.pairs c.args.key) c.index_mut.ensures.value ∙ sym (get_at g.met.K.Ord.total c.args.key c.args.rest.now.items c.args.at c.index_mut.result.now c.requires.place)

pub returns-in-None-clause-before : goal.returns-in-None-clause-before
returns-in-None-clause-before g c =
    c.put-before.ensures.before_is ∙ ap (λ x. get g.K.Ord.cmp x.pairs c.args.key) c.index_mut.ensures.value ∙ sym (get_at g.met.K.Ord.total c.args.key c.args.rest.now.items c.args.at c.index_mut.result.now c.requires.place)

pub returns-in-Some-clause-pairs : goal.returns-in-Some-clause-pairs
returns-in-Some-clause-pairs g c =
    let put = c.put-before in
    let rest = c.args.rest.now.items in
    let upper = c.in-Some.upper in
    let e : c.args.at + 1 ≡ suc c.args.at = omega arith in
    ap joined c.insert_block.ensures.items
    ∙ ap (λ k. joined (list.insert (set rest c.args.at put.new.block) k upper)) e
    ∙ halves_at g.met.K.Ord.total c.args.key rest c.args.at c.index_mut.result.now put.new.block upper c.args.value c.requires.place
    (put.ensures.halves upper c.in-Some.is ∙ ap (λ x. insert g.K.Ord.cmp x.pairs c.args.key c.args.value) c.index_mut.ensures.value)

pub returns-in-None-clause-pairs : goal.returns-in-None-clause-pairs
returns-in-None-clause-pairs g c =
    insert_at g.met.K.Ord.total c.args.key c.args.rest.now.items c.args.at c.index_mut.result.now c.put-before.new.block c.args.value c.requires.place
    (c.put-before.ensures.pairs c.in-None.is ∙ ap (λ x. insert g.K.Ord.cmp x.pairs c.args.key c.args.value) c.index_mut.ensures.value)
