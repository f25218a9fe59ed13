use Rattle.rep_core.proofs.Vocabulary.{◌≡◌, ◌+◌, ◌≤◌, length, with_all}
use Rattle.std.specs.Vec.Iter.{into_iter_items}
use Rattle.rep_core.proofs.maps.keep_all.Given as goal

abbrev pub invariant-loop-suite : goal.invariant-loop-suite
invariant-loop-suite l = record {
  pairs : with_all (into_iter_items l.suite-iterator) l.intentions.pairs ≡ with_all l.fn.pending.items l.initial.intentions.pairs;
  few : length l.intentions.pairs + length (into_iter_items l.suite-iterator) ≤ length l.initial.intentions.pairs + length l.fn.pending.items;
  room : length (into_iter_items l.suite-iterator) ≤ l.intentions.room;
}
