use Rattle.suite_prefix.proofs.Vocabulary.{◌<◌, ◌^◌, take, All, qualifier}
use Rattle.suite_prefix.proofs.validity.qualifiers_fit.Given as goal

abbrev pub invariant-loop-entry : goal.invariant-loop-entry
invariant-loop-entry l = All (λ entry. qualifier entry.tag < 2 ^ 32) (take l.entry-index l.entries)
