use Rattle.file_ops.proofs.Vocabulary.{sym, with_name, put_name}
use Rattle.std.proofs.lemmas.Result.{on_ok_weaker, on_err_weaker}
use Rattle.file_ops.proofs.Plain.{edited-absent, other_content, same_content}
use Rattle.file_ops.proofs.CapacityLaws.{keeps_capacity}
use Rattle.file_ops.proofs.edit.put_name.Goals as goal

pub returns-in-Some-clause-ok : goal.returns-in-Some-clause-ok
returns-in-Some-clause-ok c =
    on_ok_weaker c.put_name.result
    (other_content c.args.rows.now c.args.folder c.in-Some.row.now _ (λ names. with_name names c.args.name c.args.number) c.get_mut.ensures.ordered (sym c.in-Some.ensures.value))
    c.put_name.ensures.ok

pub returns-in-Some-clause-err : goal.returns-in-Some-clause-err
returns-in-Some-clause-err c =
    on_err_weaker c.put_name.result (same_content c.args.rows.now c.args.folder c.in-Some.row.now _ (sym c.in-Some.ensures.value)) c.put_name.ensures.err

pub returns-in-Some-clause-capacity : goal.returns-in-Some-clause-capacity
returns-in-Some-clause-capacity c = keeps_capacity c.args.rows.now c.args.folder c.in-Some.row.now _ (sym c.in-Some.ensures.value) c.put_name.ensures.capacity

pub returns-in-None-clause-ok : goal.returns-in-None-clause-ok
returns-in-None-clause-ok c = edited-absent c.args.rows.now c.args.folder (put_name c.args.name c.args.number) (sym c.in-None.ensures.value)
