use Rattle.sorted_map.proofs.InBlocks.{put_whole}
use Rattle.sorted_map.proofs.blocks.put.Goals as goal

pub returns-then-room-gt0 : goal.returns-then-room-gt0
returns-then-room-gt0 g c =
    let put = c.insert_in_room in
    put_whole g.met.K.Ord.total c.args.key c.args.block.now put.new.self c.args.spare.now.items c.args.value put.result put.ensures.was_ordered c.requires.spare put.ensures.before put.ensures.pairs put.ensures.room
