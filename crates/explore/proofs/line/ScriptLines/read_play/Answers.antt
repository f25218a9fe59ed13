use Rattle.explore.proofs.Vocabulary.{failed}
use Rattle.explore.proofs.Reading.{line_error, play_line}
use Rattle.explore.proofs.line.ScriptLines.read_play.Goals as goal

pub returns : goal.returns
returns c = play_line c.args.after c.args.self.now.places c.args.names.now c.args.first.now c.args.words c.in_ok-command.command c.in_ok-command.ensures

pub returns-in_err-command : goal.returns-in_err-command
returns-in_err-command c =
    let error = c.in_err-command.field-0.0 in
    rw (failed c.from_residual.result error c.from_residual.ensures)
    (line_error c.args.after c.args.self.now.places c.args.names.now c.args.first.now c.args.words error c.in_err-command.ensures)
