use Rattle.suite_play.proofs.Vocabulary.{◌≤◌, ◌∙◌, Result, Ok, Err, ap, arith, length, subst, sym, OnOk, header, language, lines_of, play_output, failed, stops, Plays, Output, whole}
use Rattle.suite_script.proofs.Played.{headed_badly}
use Rattle.suite_script.specs.Readings.{play_error_of}
use Rattle.suite_script.specs.declared.fault.ScriptError.TheVariants.{Memory}
use Rattle.suite_play.proofs.Left.{header_left}
use Rattle.suite_play.proofs.Playing.{played_output}
use Rattle.suite_play.proofs.Promised.{play_promised}
use Rattle.suite_play.proofs.player.play_events.Goals as goal

pub play_lines-requires : goal.play_lines-requires
play_lines-requires g c =
    let read = ap header (sym c.new-script.ensures.whole) ∙ c.in_ok-settings.ensures in
    let fewer : length c.read_header.new.script.lines ≤ length (whole c.args.text.now).lines = rw read at (header_left (whole c.args.text.now)) in
    let few : length (whole c.args.text.now).lines ≤ length c.args.text.now = rw c.new-script.ensures.whole at c.new-script.ensures.few in
    omega (arith, c.requires, few, fewer)

pub returns-clause-plays : goal.returns-clause-plays
returns-clause-plays g c =
    let read = ap header (sym c.new-script.ensures.whole) ∙ c.in_ok-settings.ensures in
    let plays = rw (c.in_ok-world.ensures, c.places_of-places.ensures) at c.play_lines.ensures in
    subst (λ (output : Output). Plays c.play_lines.result output (g.O.ByteOut.written c.args.writer.now) (g.O.ByteOut.written c.play_lines.new.writer)
    (g.O.ByteOut.failed_writes c.args.writer.now) (g.O.ByteOut.failed_writes c.play_lines.new.writer))
    (played_output c.args.text.now c.in_ok-settings.settings c.read_header.new.script read) plays

on_ok : {A E P : Type 0} (result : Result A E) → P → OnOk result P
on_ok (Ok given) is = is
on_ok (Err error) is = tt

pub returns-clause-promised : goal.returns-clause-promised
returns-clause-promised g c =
    let read = ap header (sym c.new-script.ensures.whole) ∙ c.in_ok-settings.ensures in
    on_ok c.play_lines.result (play_promised c.args.text.now c.in_ok-settings.settings c.read_header.new.script read c.fits.ensures.accepted c.fits.ensures.root.votes)

pub returns-in_err-settings-clause-plays : goal.returns-in_err-settings-clause-plays
returns-in_err-settings-clause-plays g c =
    let error = c.in_err-settings.field-0.0 in
    rw (failed c.from_residual.result (play_error_of error) c.from_residual.ensures)
    (headed_badly language lines_of (header c.new-script.result) (header (whole c.args.text.now)) error c.read_header.new.script (g.O.ByteOut.written c.args.writer.now) (g.O.ByteOut.failed_writes c.args.writer.now)
    (ap header c.new-script.ensures.whole) c.in_err-settings.ensures)

pub returns-in_err-world-clause-plays : goal.returns-in_err-world-clause-plays
returns-in_err-world-clause-plays g c =
    rw (failed c.from_residual-in_err-world.result (play_error_of Memory) c.from_residual-in_err-world.ensures)
    (stops Memory (play_output c.args.text.now) (g.O.ByteOut.written c.args.writer.now) (g.O.ByteOut.failed_writes c.args.writer.now) tt)
