use Rattle.file_ops.proofs.Vocabulary.{◌≡◌, Some, None, sym, ap, ◌∙◌, option_map, option_map_or, with_name, without_name, edited, in_names, number_in, put_name, drop_name, row_of, with_content, plain, plain_content, plain_row}
use Rattle.file_ops.proofs.Plain.{row_of-plain, ordered-plain, edited-absent, other_content, no_number}
use Rattle.file_ops.proofs.EditLaws.{edited-back-at}
use Rattle.file_ops.proofs.CapacityLaws.{keeps_capacity}
use Rattle.file_ops.proofs.edit.drop_name.Goals as goal

pub returns-in-Some-clause-rows : goal.returns-in-Some-clause-rows
returns-in-Some-clause-rows c =
    other_content c.args.rows.now c.args.folder c.in-Some.row.now _ (λ names. without_name names c.args.name.now) c.get_mut.ensures.ordered (sym c.in-Some.ensures.value) c.drop_name.ensures.names

pub returns-in-Some-clause-capacity : goal.returns-in-Some-clause-capacity
returns-in-Some-clause-capacity c =
    keeps_capacity c.args.rows.now c.args.folder c.in-Some.row.now _ (sym c.in-Some.ensures.value) c.drop_name.ensures.capacity

pub returns-in-Some-clause-back : goal.returns-in-Some-clause-back
returns-in-Some-clause-back c = λ number there.
    let rows = c.args.rows.now in
    let row = c.in-Some.row.now in
    let seen : row_of (plain rows) c.args.folder ≡ Some (plain_row row) = row_of-plain rows c.args.folder ∙ ap (option_map plain_row) (sym c.in-Some.ensures.value) in
    let numbered : number_in (plain_content row.content) c.args.name.now ≡ Some number = sym (ap (λ found. option_map_or (λ r. number_in r.content c.args.name.now) found None) seen) ∙ there in
    let undoes = ap (with_content (plain_row row)) (ap (in_names (λ names. with_name names c.args.name.now number)) (sym c.drop_name.ensures.names) ∙ c.drop_name.ensures.back number numbered) in
    let dropped = other_content rows c.args.folder row c.drop_name.new.self (λ names. without_name names c.args.name.now) c.get_mut.ensures.ordered (sym c.in-Some.ensures.value) c.drop_name.ensures.names in
    ap (λ r. edited r c.args.folder (put_name c.args.name.now number)) dropped
    ∙ edited-back-at (plain rows) c.args.folder (drop_name c.args.name.now) (put_name c.args.name.now number) (plain_row row) (ordered-plain rows c.get_mut.ensures.ordered) seen undoes

pub returns-in_default-clause-rows : goal.returns-in_default-clause-rows
returns-in_default-clause-rows c = edited-absent c.args.rows.now c.args.folder (drop_name c.args.name.now) (sym c.in_default.ensures.value)

pub returns-in_default-clause-back : goal.returns-in_default-clause-back
returns-in_default-clause-back c = λ number there. absurd (no_number c.args.rows.now c.args.folder c.args.name.now number (sym c.in_default.ensures.value) there)
