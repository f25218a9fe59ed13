use Rattle.suite_script.proofs.Vocabulary.{[], ◌+◌, ◌<◌, ◌^◌, length, comes_to, prints_from, language_of, owns}
use Rattle.suite_script.proofs.Played.{IsPlayed}
use Rattle.suite_script.proofs.stage.play_lines.Given as goal

abbrev pub invariant-loop-text : goal.invariant-loop-text
invariant-loop-text g l =
    let of = language_of g.L.Language.is_known g.L.Language.begins (g.L.Language.own l.language) in
    let prints = prints_from g.S.LineStage.line g.S.LineStage.after in
    record {
      played : IsPlayed l.is_faultless (comes_to [] (prints l.fn.stage 0) (owns of l.fn.script)) (comes_to l.text.items (prints l.stage l.number) (owns of l.script))
          (g.O.ByteOut.written l.fn.writer) (g.O.ByteOut.written l.writer) (g.O.ByteOut.failed_writes l.fn.writer) (g.O.ByteOut.failed_writes l.writer);
      numbers : l.number + length l.script.lines < 2 ^ 60;
    }

abbrev pub decreases-loop-text : goal.decreases-loop-text
decreases-loop-text g l = length l.script.lines
