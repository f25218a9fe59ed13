use Rattle.suite_script.proofs.Vocabulary.{◌≡◌, drop, judge}
use Rattle.suite_script.proofs.scope.Scope.judge.Given as goal

abbrev pub invariant-loop-place : goal.invariant-loop-place
invariant-loop-place l = record {
  judged : judge l.self l.number (drop l.place-index l.places) l.phrases.here ≡ judge l.self l.fn.number l.places l.fn.phrases.here;
  later : l.phrases.later ≡ l.fn.phrases.later;
}
