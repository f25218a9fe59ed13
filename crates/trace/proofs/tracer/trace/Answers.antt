use Rattle.suite_play.specs.Outputs.{play_output}
use Rattle.suite_script.proofs.Gathering.{failed}
use Rattle.suite_script.specs.Progress.{fault_of}
use Rattle.suite_script.specs.Readings.{play_error_of}
use Rattle.trace.proofs.Reading.{faultless, looked_through, told_of_faultless, unopened}
use Rattle.trace.specs.code.Reading.{left_in}
use Rattle.trace.proofs.tracer.trace.Goals as goal

pub returns : goal.returns
returns g c =
    let script = c.in_ok-script.script in
    told_of_faultless c.trace_script.result (fault_of (left_in script.settings script.reader)) (play_output c.args.text.now)
    (g.O.ByteOut.written c.args.writer.now) (g.O.ByteOut.written c.trace_script.new.writer) (g.O.ByteOut.failed_writes c.args.writer.now) (g.O.ByteOut.failed_writes c.trace_script.new.writer)
    (faultless c.args.text.now script.settings script.reader c.in_ok-script.ensures c.in_ok-check.ensures) c.in_ok-check.ensures c.trace_script.ensures

pub returns-in_err-check : goal.returns-in_err-check
returns-in_err-check g c =
    let error = c.in_err-check.field-0.0 in
    rw (failed c.from_residual.result (play_error_of error) c.from_residual.ensures)
    (looked_through error (play_output c.args.text.now) (g.O.ByteOut.written c.args.writer.now) (g.O.ByteOut.failed_writes c.args.writer.now) c.in_err-check.ensures)

pub returns-in_err-script : goal.returns-in_err-script
returns-in_err-script g c =
    let error = c.in_err-script.field-0.0 in
    rw (failed c.from_residual-in_err-script.result (play_error_of error) c.from_residual-in_err-script.ensures)
    (looked_through error (play_output c.args.text.now) (g.O.ByteOut.written c.args.writer.now) (g.O.ByteOut.failed_writes c.args.writer.now) (unopened error c.args.text.now c.in_err-script.ensures))
