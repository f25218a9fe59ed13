use Rattle.forms.proofs.Standing.{form_known}
use Rattle.forms.proofs.reading.known.Goals as goal

pub returns : goal.returns
returns c =
    form_known c.args.forms c.args.word.now c.form_of.result c.form_of-2.result c.form_of-3.result c.form_of-4.result c.or.result c.or-2.result c.or-3.result
    c.form_of.ensures c.form_of-2.ensures c.form_of-3.ensures c.form_of-4.ensures c.or.ensures c.or-2.ensures c.or-3.ensures
