use Rattle.std.proofs.Common.{◌∙◌, sym}
use Rattle.std.proofs.lemmas.Slice.Eq.{bytes_eq-Decides}
use Rattle.forms.proofs.Standing.{names_stand, of_header, optional_stands, own_stands}
use Rattle.forms.proofs.reading.Reading.standing.Goals as goal

pub returns-then-eq : goal.returns-then-eq
returns-then-eq c = (of_header c.args.self.now.forms c.in-Some.due c.in-Some.ensures, sym ((bytes_eq-Decides c.args.word.now c.in-Some.due.word.now).0 (sym c.if-eq.ensures)))

pub returns-in-Some-form_of : goal.returns-in-Some-form_of
returns-in-Some-form_of c = own_stands c.args.self.now.forms c.args.word.now c.in-Some-form_of.form (sym c.in-Some-form_of.ensures)

pub returns-in-Some-false : goal.returns-in-Some-false
returns-in-Some-false c = names_stand c.args.self.now.forms c.args.word.now c.in-Some-false.form (sym c.form_of-in_default.ensures ∙ c.in-Some-false.is-0)

pub returns-in-Some-true : goal.returns-in-Some-true
returns-in-Some-true c = optional_stands c.args.self.now.forms c.args.word.now c.in-Some-true.form (sym c.form_of-in_default-2.ensures ∙ c.in-Some-true.is-0)
