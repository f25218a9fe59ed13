use Rattle.suite_script.proofs.Vocabulary.{◌<◌, ◌∙◌, ◌+◌, ◌++◌, ℕ, List, [], Err, ap, arith, length, refl, one_more, comes_to, prints_from, play_error_of}
use Rattle.suite_script.proofs.Vocabulary.{Language, language_of, owns}
use Rattle.suite_script.proofs.Gathering.{failed}
use Rattle.suite_script.proofs.Played.{IsPlayed, all_written, broken_line, looked_through, moved_so, read_on, stopped, unplayed}
use Rattle.suite_script.proofs.Playing.{found_left, stops_next}
use Rattle.suite_script.specs.declared.fault.ScriptError.TheVariants.{Memory}
use Rattle.suite_script.specs.declared.play_error.PlayError.TheVariants as play
use Rattle.suite_script.proofs.stage.play_lines.Given.{Over}
use Rattle.suite_script.proofs.stage.play_lines.Goals as goal
use Rattle.suite_script.proofs.stage.play_lines.Goals.{Joined-not-is_faultless, then-not-is_faultless+then-is_long+in_ok-look_ahead, else-not-is_faultless, then-is_faultless+in_ok-write_line, else-is_faultless+in_ok-play_line}

-- the language of a script
abbrev of : (g : Over) → g.row.L.Denot → Language g.row.L-Own.Denot
of g language = language_of g.L.Language.is_known g.L.Language.begins (g.L.Language.own language)

-- what lines print, from one on
abbrev lines : (g : Over) → g.row.S.Denot → ℕ → List g.row.L-Own.Denot → List ℕ
lines g stage number = prints_from g.S.LineStage.line g.S.LineStage.after stage number

-- a line is read, and those after it are looked through where they were to be: what it prints is left, and what they print
line_read : (g : Over) (c : Joined-not-is_faultless g) → IsPlayed c.if-not-is_faultless.is_faultless (comes_to [] (lines g c.args.stage.now 0) (owns (of g c.args.language.now) c.args.script.now))
    (comes_to (c.loop-text.text.items ++ g.S.LineStage.line c.loop-text.stage c.loop-text.number c.in-Some.own)
    (lines g (g.S.LineStage.after c.loop-text.stage c.loop-text.number c.in-Some.own) (c.loop-text.number + 1)) (owns (of g c.args.language.now) c.next_own.new.self))
    (g.O.ByteOut.written c.args.writer.now) (g.O.ByteOut.written c.loop-text.writer) (g.O.ByteOut.failed_writes c.args.writer.now) (g.O.ByteOut.failed_writes c.loop-text.writer)
line_read g c =
    let here = c.loop-text in
    let own = c.in-Some.own in
    let left = owns (of g c.args.language.now) c.next_own.new.self in
    let printed = here.text.items ++ g.S.LineStage.line here.stage here.number own in
    let given = rw c.in-Some.is at c.in_ok-own.ensures.own in
    let is = read_on g.S.LineStage.line g.S.LineStage.after here.stage here.number own here.text.items (owns (of g c.args.language.now) here.script) left given here.invariant.played in
    elim c.if-not-is_faultless.branch [
      | then-not-is_faultless+then-is_long+in_ok-look_ahead w ↦
          rw w.is_faultless-is (looked_through printed (lines g (g.S.LineStage.after here.stage here.number own) (here.number + 1)) left w.in_ok-look_ahead.ensures is)
      | else-not-is_faultless w ↦ rw w.is_faultless-is is
    ]

pub loop-text-init : goal.loop-text-init
loop-text-init g c =
    let left = owns (of g c.args.language.now) c.args.script.now in
    record {
      played = unplayed _ _ (g.O.ByteOut.written c.args.writer.now) (g.O.ByteOut.failed_writes c.args.writer.now) (ap (λ printed. comes_to printed (lines g c.args.stage.now 0) left) c.new-text.ensures.items);
      numbers = omega (arith, c.requires);
    }

pub write_line-requires : goal.write_line-requires
write_line-requires g c = omega (arith, c.loop-text.invariant.numbers)

pub play_line-requires : goal.play_line-requires
play_line-requires g c = omega (arith, c.loop-text.invariant.numbers)

pub loop-text-preserved : goal.loop-text-preserved
loop-text-preserved g c =
    let here = c.loop-text in
    let is = line_read g (goal.at.loop-text-preserved g c).Joined-not-is_faultless in
    let fewer : length c.next_own.new.self.lines < length here.script.lines = rw c.in-Some.is at c.in_ok-own.ensures.fewer in
    let stage = g.S.LineStage.after here.stage here.number c.in-Some.own in
    let printed = here.text.items ++ g.S.LineStage.line here.stage here.number c.in-Some.own in
    record {
      played = elim c.if-is_faultless.branch [
        | then-is_faultless+in_ok-write_line w ↦
            rw (w.text-is, w.stage-is, w.writer-is, w.in_ok-write_line.ensures.after)
            (moved_so (g.O.ByteOut.written w.write_line.new.writer) (g.O.ByteOut.failed_writes w.write_line.new.writer) printed w.write_line.new.text.items
            (lines g stage (here.number + 1)) (owns (of g c.args.language.now) c.next_own.new.self) w.if-is_faultless.true w.in_ok-write_line.ensures.printed is)
        | else-is_faultless+in_ok-play_line w ↦ rw (w.text-is, w.stage-is, w.writer-is, w.in_ok-play_line.ensures.printed, w.in_ok-play_line.ensures.after) is
      ];
      numbers = omega (arith, here.invariant.numbers, fewer);
    }

-- ---- it is broken off

pub returns-in_err-own : goal.returns-in_err-own
returns-in_err-own g c =
    let here = c.loop-text in
    let error = c.in_err-own.field-0.0 in
    rw (failed c.from_residual.result (play_error_of error) c.from_residual.ensures)
    (stopped here.is_faultless error _ _ _ _ _ _ here.invariant.played
    (stops_next error here.text.items (lines g here.stage here.number) (owns (of g c.args.language.now) here.script) (owns (of g c.args.language.now) c.next_own.new.self) c.in_err-own.ensures.own))

pub returns-in_err-look_ahead : goal.returns-in_err-look_ahead
returns-in_err-look_ahead g c =
    let here = c.loop-text in
    let own = c.in-Some.own in
    let error = c.in_err-look_ahead.field-0.0 in
    let left = owns (of g c.args.language.now) c.next_own.new.self in
    let printed = here.text.items ++ g.S.LineStage.line here.stage here.number own in
    let given = rw c.in-Some.is at c.in_ok-own.ensures.own in
    let is = read_on g.S.LineStage.line g.S.LineStage.after here.stage here.number own here.text.items (owns (of g c.args.language.now) here.script) left given here.invariant.played in
    rw (failed c.from_residual-in_err-look_ahead.result (play_error_of error) c.from_residual-in_err-look_ahead.ensures)
    (stopped here.is_faultless error _ _ _ _ _ _ is (found_left (Err error) printed (lines g (g.S.LineStage.after here.stage here.number own) (here.number + 1)) left c.in_err-look_ahead.ensures))

pub returns-in_err-write_line : goal.returns-in_err-write_line
returns-in_err-write_line g c =
    let here = c.loop-text in
    let error = c.in_err-write_line.field-0.0 in
    let stage = g.S.LineStage.after here.stage here.number c.in-Some.own in
    let printed = here.text.items ++ g.S.LineStage.line here.stage here.number c.in-Some.own in
    rw (failed c.from_residual-in_err-write_line.result error c.from_residual-in_err-write_line.ensures)
    (broken_line error (g.O.ByteOut.written c.write_line.new.writer) (g.O.ByteOut.failed_writes c.write_line.new.writer) printed c.write_line.new.text.items
    (lines g stage (here.number + 1)) (owns (of g c.args.language.now) c.next_own.new.self)
    c.if-is_faultless.true c.in_err-write_line.ensures.printed (line_read g (goal.at.returns-in_err-write_line g c).Joined-not-is_faultless))

pub returns-in_err-play_line : goal.returns-in_err-play_line
returns-in_err-play_line g c =
    rw (failed c.from_residual-in_err-play_line.result play.Memory c.from_residual-in_err-play_line.ensures)
    (stopped c.loop-text.is_faultless Memory _ _ _ _ _ _ c.loop-text.invariant.played tt)

pub returns-in_err-write_gathered : goal.returns-in_err-write_gathered
returns-in_err-write_gathered g c =
    rw (failed c.from_residual-in_err-write_gathered.result play.WriteFailed c.from_residual-in_err-write_gathered.ensures)
    (c.in_err-write_gathered.ensures.err ∙ ap one_more c.loop-text.invariant.played.same)

-- ---- it is played to its end

pub returns : goal.returns
returns g c =
    let here = c.loop-text in
    let none = rw c.in_default.is at c.in_ok-own.ensures.own in (
      all_written (g.O.ByteOut.written c.write_gathered.new.writer) here.text.items (lines g here.stage here.number) (owns (of g c.args.language.now) here.script) none refl c.in_ok-write_gathered.ensures.ok here.invariant.played,
      c.in_ok-write_gathered.ensures.kept ∙ here.invariant.played.same,
    )
