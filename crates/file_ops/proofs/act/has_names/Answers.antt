use Rattle.file_ops.proofs.Vocabulary.{sym, ap, ◌∙◌, option_map, has_names, plain_row}
use Rattle.file_ops.proofs.Plain.{row_of-plain}
use Rattle.file_ops.proofs.act.has_names.Goals as goal

pub returns-in-Some : goal.returns-in-Some
returns-in-Some c =
    c.has_names.ensures ∙ sym (ap has_names (row_of-plain c.args.rows.now c.args.number ∙ ap (option_map plain_row) (sym c.in-Some.ensures)))

pub returns-in-None : goal.returns-in-None
returns-in-None c =
    sym (ap has_names (row_of-plain c.args.rows.now c.args.number ∙ ap (option_map plain_row) (sym c.in-None.ensures)))
