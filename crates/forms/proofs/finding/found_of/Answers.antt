use Rattle.std.proofs.Common.{◌∙◌, sym}
use Rattle.forms.proofs.Answering.{found_nowhere, found_standing}
use Rattle.forms.proofs.finding.found_of.Goals as goal

pub returns-in-Err : goal.returns-in-Err
returns-in-Err c =
    let line = c.of_line-in-Err in
    found_nowhere c.args.trial.reading.now.scope c.args.trial.reading.now.forms c.args.trial.line.now c.in-Some.first.now c.next.new.self line.result.number
    c.in-Err.fault line.result.fault (sym c.if-is_skipped.ensures) (sym c.new-words.ensures ∙ c.in-Some.ensures.steps) c.in-Err.ensures line.ensures.number line.ensures.fault

pub returns-in-Ok : goal.returns-in-Ok
returns-in-Ok c =
    found_standing c.args.trial.reading.now.scope c.args.trial.reading.now.forms c.args.trial.line.now c.in-Ok.form.word.now c.in-Some.first.now c.next.new.self
    c.of_standing.result (sym c.if-is_skipped.ensures) (sym c.new-words.ensures ∙ c.in-Some.ensures.steps) c.in-Ok.ensures.1 c.of_standing.ensures
