use Rattle.std.proofs.Common.{ℕ, Ok, subst}
use Rattle.suite_cli.specs.Runs.{Reports}
use Rattle.suite_cli.specs.code.Errors.{of_play}
use Rattle.suite_cli.proofs.Served.{concludes, not_written, reported}
use Rattle.suite_script.proofs.Gathering.{failed}
use Rattle.suite_cli.proofs.serve.serve_script.Goals as goal

pub returns-in_ok-write_outcomes-in-Ok : goal.returns-in_ok-write_outcomes-in-Ok
returns-in_ok-write_outcomes-in-Ok g c =
    let came = c.in-Ok.served in
    let before = g.O.ByteOut.written c.args.writer.now in
    let now = g.O.ByteOut.written c.write_outcomes.new.writer in
    let after = g.O.ByteOut.written c.report.new.writer in
    let failures = g.O.ByteOut.failed_writes c.args.writer.now in
    let failures_now = g.O.ByteOut.failed_writes c.write_outcomes.new.writer in
    let failures_after = g.O.ByteOut.failed_writes c.report.new.writer in
    let status = c.report.result in
    let reports = subst (λ (n : ℕ). Reports (Ok n) status now after failures_now failures_after) c.steps.ensures c.report.ensures in
    concludes c.args.script came status before after failures failures_after c.in-Ok.ensures
    (reported came status before now after failures failures_now failures_after c.in_ok-write_outcomes-in-Ok.ensures reports)

pub returns-in_err-write_outcomes-in-Ok : goal.returns-in_err-write_outcomes-in-Ok
returns-in_err-write_outcomes-in-Ok g c =
    let error = c.in_err-write_outcomes-in-Ok.field-0.0 in
    let came = c.in-Ok.served in
    let before = g.O.ByteOut.written c.args.writer.now in
    let now = g.O.ByteOut.written c.write_outcomes.new.writer in
    let failures = g.O.ByteOut.failed_writes c.args.writer.now in
    let failures_now = g.O.ByteOut.failed_writes c.write_outcomes.new.writer in
    rw (failed c.from_residual.result (of_play error) c.from_residual.ensures)
    (λ status after failures_after told. not_written error c.args.script came status before now after failures failures_now failures_after c.in-Ok.ensures c.in_err-write_outcomes-in-Ok.ensures told)
