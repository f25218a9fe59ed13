use Rattle.suite_script.proofs.Vocabulary.{◌≡◌, ◌∷◌, length, operations_misfit}
use Rattle.suite_script.proofs.scope.Scope.operations_misfit.Given as goal

abbrev pub invariant-loop-misfit : goal.invariant-loop-misfit
invariant-loop-misfit l =
    operations_misfit l.self l.number (l.phrases.here ∷ l.phrases.later)
    ≡ operations_misfit l.self l.initial.number (l.initial.phrases.here ∷ l.initial.phrases.later)

abbrev pub decreases-loop-misfit : goal.decreases-loop-misfit
decreases-loop-misfit l = length l.phrases.later
