use Rattle.suite_serve.proofs.Vocabulary.{◌≡◌, ◌+◌, drop, items_in}
use Rattle.suite_serve.proofs.served.items_in.Given as goal

abbrev pub invariant-loop-history : goal.invariant-loop-history
invariant-loop-history l = l.items + items_in (drop l.history-index l.histories) ≡ items_in l.histories
