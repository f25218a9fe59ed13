use Rattle.suite_prefix.proofs.Vocabulary.{◌≡◌, length, names_rise, rise_above}
use Rattle.suite_prefix.proofs.shapes.Names.rise.Given as goal

abbrev pub invariant-loop-name : goal.invariant-loop-name
invariant-loop-name l = rise_above l.before l.others ≡ names_rise l.self

abbrev pub decreases-loop-name : goal.decreases-loop-name
decreases-loop-name l = length l.others
