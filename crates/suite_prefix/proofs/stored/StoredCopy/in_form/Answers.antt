use Rattle.suite_prefix.proofs.Vocabulary.{◌≡◌, sym, subst, ap, ◌∙◌, Kept, IsReadOf, IsRecord, kept_in}
use Rattle.std.specs.Arc.{arc_value}
use Rattle.suite_prefix.proofs.Records.{is_record, kept_of_bytes}
use Rattle.suite_prefix.proofs.stored.StoredCopy.in_form.Goals as goal

pub kept_beside-requires-clause-record : goal.kept_beside-requires-clause-record
kept_beside-requires-clause-record c =
    let same : c.in_ok-bytes.bytes.items ≡ (arc_value c.in_ok-shared.shared).items = ap (λ v. v.items) (sym c.in_ok-shared.ensures.ok) in
    subst IsRecord same (is_record c.in_ok-bytes.bytes.items c.args.form c.args.copy.now c.requires.valid c.requires.held c.in_ok-bytes.ensures)

pub kept_beside-requires-clause-read : goal.kept_beside-requires-clause-read
kept_beside-requires-clause-read c =
    let same : c.in_ok-bytes.bytes.items ≡ (arc_value c.in_ok-shared.shared).items = ap (λ v. v.items) (sym c.in_ok-shared.ensures.ok) in
    let kept = kept_of_bytes c.in_ok-bytes.bytes.items c.args.form c.args.copy.now c.requires.valid c.requires.held c.in_ok-bytes.ensures in
    subst (λ (k : Kept). IsReadOf k.copy c.in_ok-read.read.value) (sym kept ∙ ap kept_in same) c.in_ok-read.ensures

pub returns : goal.returns
returns c =
    let same : c.in_ok-bytes.bytes.items ≡ (arc_value c.in_ok-shared.shared).items = ap (λ v. v.items) (sym c.in_ok-shared.ensures.ok) in
    c.kept_beside.ensures ∙ ap kept_in (sym same) ∙ kept_of_bytes c.in_ok-bytes.bytes.items c.args.form c.args.copy.now c.requires.valid c.requires.held c.in_ok-bytes.ensures
