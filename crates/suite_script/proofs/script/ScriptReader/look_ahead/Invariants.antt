use Rattle.suite_script.proofs.Vocabulary.{◌≡◌, ◌+◌, ◌<◌, ◌^◌, true, length, fault_of, language_of, lines_from, owns, owns_in}
use Rattle.suite_script.proofs.script.ScriptReader.look_ahead.Given as goal

abbrev pub invariant-loop-place : goal.invariant-loop-place
invariant-loop-place g l =
    let of = language_of g.L.Language.is_known g.L.Language.begins (g.L.Language.own l.language) in
    record {
      same : fault_of (owns_in of true l.self.names (lines_from l.number l.left)) ≡ fault_of (owns of l.self);
      room : l.number + length l.left < 2 ^ 63;
    }

abbrev pub decreases-loop-place : goal.decreases-loop-place
decreases-loop-place g l = length (lines_from l.number l.left)
