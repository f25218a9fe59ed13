use Rattle.file_ops.proofs.Vocabulary.{◌≡◌, Some, sym, ap, ◌∙◌, none-some, option_map, Row, row_of, listed_in, plain, plain_row}
use Rattle.file_ops.proofs.Listing.{if_ok}
use Rattle.file_ops.proofs.Plain.{kept_row, row_of-plain, same_row}
use Rattle.file_ops.proofs.edit.list_names.Goals as goal

pub returns-in-Some-clause-list : goal.returns-in-Some-clause-list
returns-in-Some-clause-list c =
    let seen : row_of (plain c.args.rows.now) c.args.folder ≡ Some (plain_row c.in-Some.row.now) = row_of-plain c.args.rows.now c.args.folder ∙ ap (option_map plain_row) (sym c.in-Some.ensures.value) in
    if_ok c.list.result _ _ (λ list is row there. is ∙ ap (λ (r : Row). listed_in r.content) (same_row (plain_row c.in-Some.row.now) row (sym seen ∙ there))) c.list.ensures.list

pub returns-in-Some-clause-same : goal.returns-in-Some-clause-same
returns-in-Some-clause-same c = kept_row c.args.rows.now c.args.folder c.in-Some.row.now c.list.new.self (sym c.in-Some.ensures.value) c.list.ensures.same

pub returns-in-None-clause-list : goal.returns-in-None-clause-list
returns-in-None-clause-list c = λ row there.
    absurd (none-some row (sym (row_of-plain c.args.rows.now c.args.folder ∙ ap (option_map plain_row) (sym c.in-None.ensures.value)) ∙ there))
