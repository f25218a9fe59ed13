use Rattle.txn_core.proofs.Vocabulary.{◌≡◌, opened_all}
use Rattle.std.specs.Vec.Iter.{into_iter_items}
use Rattle.txn_core.proofs.carrying.open_all.Given as goal

abbrev pub invariant-loop-number : goal.invariant-loop-number
invariant-loop-number l = record {
  gathered : opened_all l.task (into_iter_items l.number-iterator) (record { suites = l.suites.pairs; cache = l.cache.entries }) ≡ opened_all l.task l.fn.opened.items
      (record { suites = l.initial.suites.pairs; cache = l.initial.cache.entries });
  limits : l.cache.limits ≡ l.initial.cache.limits;
  room : l.suites.room ≡ l.initial.suites.room;
}
