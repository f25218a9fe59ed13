use Rattle.file_ops.proofs.CapacityLaws.{insert_keeps}
use Rattle.file_ops.proofs.stored.StoredContent.put_back_name.Goals as goal

pub returns-in-Names-clause-capacity : goal.returns-in-Names-clause-capacity
returns-in-Names-clause-capacity c =
    rw c.in-Names.is (insert_keeps c.in-Names.names c.insert_in_room.new.self c.args.name c.args.number c.insert_in_room.result c.insert_in_room.ensures.was_ordered
    c.insert_in_room.ensures.pairs c.insert_in_room.ensures.before c.insert_in_room.ensures.room)
