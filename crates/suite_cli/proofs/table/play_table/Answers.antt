use Rattle.std.proofs.Common.{◌∙◌, ap, codes, subst, sym}
use Rattle.suite_cli.proofs.Playing.{played_output}
use Rattle.suite_cli.specs.Outputs.{lines_of, table_output}
use Rattle.suite_cli.specs.Scripts.{is_known, language}
use Rattle.suite_script.proofs.Gathering.{failed, stops}
use Rattle.suite_script.proofs.Played.{headed_badly}
use Rattle.suite_script.specs.Gathering.{Plays}
use Rattle.suite_script.specs.Outputs.{Output}
use Rattle.suite_script.specs.Readings.{play_error_of}
use Rattle.suite_script.specs.Scripts.{headed, root_in, whole}
use Rattle.suite_script.specs.declared.fault.ScriptError.TheVariants.{Memory}
use Rattle.suite_cli.proofs.table.play_table.Goals as goal

pub returns : goal.returns
returns g c =
    let read = ap (headed is_known (codes "root") root_in) (sym c.new-script.ensures.whole) ∙ c.in_ok-root.ensures.root in
    let plays = rw (c.in_ok-table.ensures, c.settings_of.ensures) at c.play_lines.ensures in
    subst (λ (output : Output). Plays c.play_lines.result output (g.O.ByteOut.written c.args.writer.now) (g.O.ByteOut.written c.play_lines.new.writer)
    (g.O.ByteOut.failed_writes c.args.writer.now) (g.O.ByteOut.failed_writes c.play_lines.new.writer))
    (played_output c.args.text.now c.in_ok-root.root c.read_root.new.script read) plays

pub returns-in_err-root : goal.returns-in_err-root
returns-in_err-root g c =
    let error = c.in_err-root.field-0.0 in
    let header = headed is_known (codes "root") root_in in
    rw (failed c.from_residual.result (play_error_of error) c.from_residual.ensures)
    (headed_badly language lines_of (header c.new-script.result) (header (whole c.args.text.now)) error c.read_root.new.script (g.O.ByteOut.written c.args.writer.now) (g.O.ByteOut.failed_writes c.args.writer.now)
    (ap header c.new-script.ensures.whole) c.in_err-root.ensures.root)

pub returns-in_err-table : goal.returns-in_err-table
returns-in_err-table g c =
    rw (failed c.from_residual-in_err-table.result (play_error_of Memory) c.from_residual-in_err-table.ensures)
    (stops Memory (table_output c.args.text.now) (g.O.ByteOut.written c.args.writer.now) (g.O.ByteOut.failed_writes c.args.writer.now) tt)
