use Rattle.suite_script.proofs.Vocabulary.{◌≡◌, ◌≤◌, length, language_of, owns}
use Rattle.suite_script.proofs.script.ScriptReader.next_own.Given as goal

abbrev pub invariant-loop-line : goal.invariant-loop-line
invariant-loop-line g l =
    let of = language_of g.L.Language.is_known g.L.Language.begins (g.L.Language.own l.language) in
    record {
      same : owns of l.self ≡ owns of l.fn.self;
      fewer : length l.self.lines ≤ length l.fn.self.lines;
    }

abbrev pub decreases-loop-line : goal.decreases-loop-line
decreases-loop-line g l = length l.self.lines
