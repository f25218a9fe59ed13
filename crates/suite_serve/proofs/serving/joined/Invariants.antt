use Rattle.suite_serve.proofs.Vocabulary.{◌≡◌, ◌++◌, into_iter_items}
use Rattle.suite_serve.proofs.serving.joined.Given as goal

abbrev pub invariant-loop-item : goal.invariant-loop-item
invariant-loop-item g l =
    (goal.iterator-loop-item g).can_next l.item-iterator
    × (goal.iterator-loop-item g).is_finite l.item-iterator
    × (l.all.items ++ into_iter_items l.item-iterator ≡ l.fn.first.items ++ into_iter_items l.initial.item-iterator)
