use Rattle.suite_script.proofs.Vocabulary.{◌≡◌, length, fault_of, language_of, owns}
use Rattle.suite_script.proofs.script.ScriptReader.check.Given as goal

abbrev pub invariant-loop : goal.invariant-loop
invariant-loop g l =
    let of = language_of g.L.Language.is_known g.L.Language.begins (g.L.Language.own l.language) in
    fault_of (owns of l.self) ≡ fault_of (owns of l.fn.self)

abbrev pub decreases-loop : goal.decreases-loop
decreases-loop g l = length l.self.lines
