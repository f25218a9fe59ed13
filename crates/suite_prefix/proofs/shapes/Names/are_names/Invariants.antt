use Rattle.suite_prefix.proofs.Vocabulary.{length, ◌↔◌, All, IsName}
use Rattle.suite_prefix.proofs.shapes.Names.are_names.Given as goal

abbrev pub invariant-loop-name : goal.invariant-loop-name
invariant-loop-name l = All (λ entry. IsName entry.0) l.others ↔ All (λ entry. IsName entry.0) l.self

abbrev pub decreases-loop-name : goal.decreases-loop-name
decreases-loop-name l = length l.others
