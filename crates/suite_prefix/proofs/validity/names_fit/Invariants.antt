use Rattle.suite_prefix.proofs.Vocabulary.{◌<◌, ◌^◌, take, All, IsName}
use Rattle.suite_prefix.proofs.validity.names_fit.Given as goal

abbrev pub invariant-loop-name : goal.invariant-loop-name
invariant-loop-name l = record {
  are_names : All (λ entry. IsName entry.0) (take l.name-index l.names);
  suites_fit : All (λ entry. entry.1 < 2 ^ 64) (take l.name-index l.names);
}
