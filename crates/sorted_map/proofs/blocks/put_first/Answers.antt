use Rattle.sorted_map.proofs.Vocabulary.{◌∷◌, ◌++◌, sym, ◌∙◌, ap, is_some, joined}
use Rattle.sorted_map.proofs.InBlocks.{get_back, insert_at, halves_at, room_parted}
use Rattle.sorted_map.proofs.blocks.put_first.Goals as goal

pub returns-in-Some-clause-before : goal.returns-in-Some-clause-before
returns-in-Some-clause-before g c = c.put-before.ensures.before_is ∙ sym (get_back g.met.K.Ord.total c.args.key c.args.first.now.pairs (joined c.args.rest.now.items) c.requires.place)

pub returns-in-None-clause-before : goal.returns-in-None-clause-before
returns-in-None-clause-before g c = c.put-before.ensures.before_is ∙ sym (get_back g.met.K.Ord.total c.args.key c.args.first.now.pairs (joined c.args.rest.now.items) c.requires.place)

pub returns-in-Some-clause-pairs : goal.returns-in-Some-clause-pairs
returns-in-Some-clause-pairs g c =
    let put = c.put-before in
    ap (λ l. put.new.block.pairs ++ joined l) c.insert_block.ensures.items
    ∙ halves_at g.met.K.Ord.total c.args.key (c.args.first.now ∷ c.args.rest.now.items) 0 c.args.first.now put.new.block c.in-Some.upper c.args.value c.requires.place (put.ensures.halves c.in-Some.upper c.in-Some.is)

pub returns-in-None-clause-pairs : goal.returns-in-None-clause-pairs
returns-in-None-clause-pairs g c =
    let put = c.put-before in
    insert_at g.met.K.Ord.total c.args.key (c.args.first.now ∷ c.args.rest.now.items) 0 c.args.first.now put.new.block c.args.value c.requires.place (put.ensures.pairs c.in-None.is)

pub returns-in-Some-clause-room : goal.returns-in-Some-clause-room
returns-in-Some-clause-room g c =
    let put = c.put-before in
    let there = ap is_some c.in-Some.is in
    let taken = put.ensures.spare_taken there in
    room_parted c.args.first.now put.new.block c.args.rest.now.items c.insert_block.new.rest.items c.args.spare.now.items put.new.spare.items (is_some put.result.0) taken.0 (put.ensures.full there) taken.1
