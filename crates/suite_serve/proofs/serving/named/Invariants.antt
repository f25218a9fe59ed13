use Rattle.suite_serve.proofs.Vocabulary.{◌≡◌, ◌++◌, length, into_iter_items, named_from}
use Rattle.suite_serve.proofs.serving.named.Given as goal

abbrev pub invariant-loop-job : goal.invariant-loop-job
invariant-loop-job l = l.all.items ++ named_from (length l.all.items) (into_iter_items l.job-iterator) ≡ named_from 0 (into_iter_items l.initial.job-iterator)
