use Rattle.file_ops.proofs.Vocabulary.{sym, ap, ◌∙◌, arith, option_map, plain, plain_row, row_of, with_row, edited, drop_name, capacity_at}
use Rattle.file_ops.proofs.Plain.{row_of-plain, plain-insert, ordered-plain}
use Rattle.file_ops.proofs.EditLaws.{drop-put_name}
use Rattle.file_ops.proofs.CapacityLaws.{made_capacity}
use Rattle.file_ops.proofs.edit.put_made.Goals as goal

pub returns-in-Ok-clause-ok : goal.returns-in-Ok-clause-ok
returns-in-Ok-clause-ok c = record {
  ordered = c.put_name.ensures.was_ordered;
  rows = ap plain c.in-Ok.ensures.ok
      ∙ plain-insert c.put_name.new.rows c.args.number c.args.row
      ∙ ap (λ rows. with_row rows c.args.number (plain_row c.args.row)) c.in_ok-put_name.ensures.ok;
  made_over = ap (option_map plain_row) c.in-Ok.ensures.before
      ∙ sym (row_of-plain c.put_name.new.rows c.args.number)
      ∙ ap (λ rows. row_of rows c.args.number) c.in_ok-put_name.ensures.ok;
  capacity = made_capacity c.args.rows.now c.put_name.new.rows c.insert.new.self c.args.number c.args.row c.in-Ok.before c.put_name.ensures.capacity c.in-Ok.ensures.before c.in-Ok.ensures.ok;
}

pub returns-in-Err-clause-err : goal.returns-in-Err-clause-err
returns-in-Err-clause-err c = record {
  rows = c.drop_name.ensures.rows
      ∙ ap (λ rows. edited (plain rows) c.args.folder (drop_name c.args.name.now)) c.in-Err.ensures.err
      ∙ ap (λ rows. edited rows c.args.folder (drop_name c.args.name.now)) c.in_ok-put_name.ensures.ok
      ∙ drop-put_name (plain c.args.rows.now) c.args.folder c.args.name.now c.args.number (ordered-plain c.args.rows.now c.put_name.ensures.was_ordered) c.requires;
  capacity = λ suite. omega (arith, c.put_name.ensures.capacity.kept suite, ap (λ rows. capacity_at rows suite) c.in-Err.ensures.err, c.drop_name.ensures.capacity.kept suite);
}
