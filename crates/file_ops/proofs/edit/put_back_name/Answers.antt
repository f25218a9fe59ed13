use Rattle.file_ops.proofs.Vocabulary.{sym, with_name, put_name}
use Rattle.file_ops.proofs.Plain.{edited-absent, other_content}
use Rattle.file_ops.proofs.CapacityLaws.{keeps_capacity}
use Rattle.file_ops.proofs.edit.put_back_name.Goals as goal

pub returns-in-Some-clause-rows : goal.returns-in-Some-clause-rows
returns-in-Some-clause-rows c =
    other_content c.args.rows.now c.args.folder c.in-Some.row.now _ (λ names. with_name names c.args.name c.args.number) c.get_mut.ensures.ordered (sym c.in-Some.ensures.value) c.put_back_name.ensures.names

pub returns-in-Some-clause-capacity : goal.returns-in-Some-clause-capacity
returns-in-Some-clause-capacity c =
    keeps_capacity c.args.rows.now c.args.folder c.in-Some.row.now _ (sym c.in-Some.ensures.value) c.put_back_name.ensures.capacity

pub returns-in_default-clause-rows : goal.returns-in_default-clause-rows
returns-in_default-clause-rows c = edited-absent c.args.rows.now c.args.folder (put_name c.args.name c.args.number) (sym c.in_default.ensures.value)
