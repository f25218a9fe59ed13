use Rattle.std.proofs.Common.{◌≡◌, ℕ, List, true, bytes_eq, subst, sym}
use Rattle.forms.proofs.Answering.{found_again, found_form, found_large}
use Rattle.forms.proofs.finding.of_standing.Goals as goal

pub returns-then-is_some : goal.returns-then-is_some
returns-then-is_some c =
    found_again c.args.trial.reading.now.scope c.args.trial.reading.now.forms c.args.form.word.now c.args.words c.of_line.result.number c.of_line.result.fault
    (subst (λ (text : List ℕ). bytes_eq c.args.form.word.now text ≡ true) c.as_slice.ensures (sym c.if-eq.ensures)) c.of_line.ensures.number c.of_line.ensures.fault

pub returns-then-not-branch : goal.returns-then-not-branch
returns-then-not-branch c =
    let whole = c.of_line-then-not-branch in
    found_large c.args.trial.reading.now.scope c.args.trial.reading.now.forms c.args.form.word.now c.args.words whole.result.number whole.result.fault
    (subst (λ (text : List ℕ). bytes_eq c.args.form.word.now text ≡ true) c.as_slice-2.ensures (sym c.if-eq-2.ensures)) whole.ensures.number whole.ensures.fault

pub returns : goal.returns
returns c =
    found_form c.args.trial.reading.now.scope c.args.trial.reading.now.forms c.args.form c.args.words c.in_ok-found.found.number c.in_ok-found.found.fault
    c.requires c.in_ok-found.ensures
