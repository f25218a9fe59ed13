use Rattle.rep_core.proofs.Vocabulary.{◌≡◌, drop, lists_twice}
use Rattle.rep_core.proofs.evaluate.any_stands_twice.Given as goal

abbrev pub invariant-loop-i : goal.invariant-loop-i
invariant-loop-i l = lists_twice (drop l.i l.parts) ≡ lists_twice l.parts
