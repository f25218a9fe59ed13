use Rattle.suite_cli.proofs.Ran.{not_played, not_read, streams_of}
use Rattle.suite_cli.specs.Outputs.{script_output_of}
use Rattle.suite_cli.specs.code.Errors.{of_play, of_read}
use Rattle.suite_script.proofs.Gathering.{failed}
use Rattle.suite_cli.proofs.commands.run_script.Goals as goal

pub returns-in_err-text : goal.returns-in_err-text
returns-in_err-text g c =
    let error = c.in_err-text.field-0.0 in
    rw (failed c.from_residual.result (of_read error) c.from_residual.ensures)
    (λ status after failures told. not_read error (script_output_of c.args.command) (streams_of _ _ _ (g.I.ByteIn.failed_reads c.args.reader.now) _ _ _) status _ c.in_err-text.ensures.err c.in_err-text.ensures.memory told)

pub returns-in_err-play_script : goal.returns-in_err-play_script
returns-in_err-play_script g c =
    let error = c.in_err-play_script.field-0.0 in
    let output = script_output_of c.args.command in
    let now = g.O.ByteOut.written c.play_script.new.writer in
    let failures = g.O.ByteOut.failed_writes c.play_script.new.writer in
    let plays = rw c.deref.ensures.value at c.in_err-play_script.ensures in
    rw (failed c.from_residual-in_err-play_script.result (of_play error) c.from_residual-in_err-play_script.ensures)
    (λ status after failures_after told. not_played error output (streams_of _ _ _ (g.I.ByteIn.failed_reads c.args.reader.now) _ _ _) status c.in_ok-text.text.items _ now failures
    c.in_ok-text.ensures.ok c.in_ok-text.ensures.kept plays told)
