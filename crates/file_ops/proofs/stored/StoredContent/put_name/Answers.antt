use Rattle.file_ops.proofs.CapacityLaws.{insert_keeps}
use Rattle.file_ops.proofs.stored.StoredContent.put_name.Goals as goal

pub returns-in_ok-insert-clause-capacity : goal.returns-in_ok-insert-clause-capacity
returns-in_ok-insert-clause-capacity c =
    rw c.in-Names.is (insert_keeps c.in-Names.names c.insert.new.self c.args.name c.args.number c.in_ok-insert.field-0 c.insert.ensures.was_ordered c.in_ok-insert.ensures.ok c.in_ok-insert.ensures.before c.in_ok-insert.ensures.room)
