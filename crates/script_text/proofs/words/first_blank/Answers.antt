use Rattle.script_text.proofs.Vocabulary.{◌∙◌, is_blank}
use Rattle.script_text.proofs.Cuts.{position-near, position-far, position-nowhere}
use Rattle.script_text.proofs.words.first_blank.Goals as goal

pub returns-in-Some : goal.returns-in-Some
returns-in-Some c = position-near is_blank c.min-near.result c.in-Some.place c.args.line.now c.in-Some.ensures

pub returns-in_err-far_blank-in-None : goal.returns-in_err-far_blank-in-None
returns-in_err-far_blank-in-None c =
    c.from_residual.ensures ∙ position-nowhere is_blank c.min-near.result c.args.line.now c.in-None.ensures c.in_err-far_blank-in-None.ensures

pub returns-in_ok-far_blank-in-None : goal.returns-in_ok-far_blank-in-None
returns-in_ok-far_blank-in-None c =
    position-far is_blank c.min-near.result c.in_ok-far_blank-in-None.field-0 c.args.line.now c.in-None.ensures c.in_ok-far_blank-in-None.ensures
