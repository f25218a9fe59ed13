use Rattle.weak_cache.proofs.Vocabulary.{◌≡◌, ◌≤◌, ◌<◌, ◌++◌, length, spare, IsKept, Sited, values}
use Rattle.weak_cache.proofs.kept.Kept.widen.Given as goal

abbrev pub invariant-loop-oldest : goal.invariant-loop-oldest
invariant-loop-oldest l = record {
  kept : IsKept l.wider;
  same : values l.self.shelf.entries ++ values l.wider.shelf.entries ≡ values l.initial.self.shelf.entries;
  sited : Sited l.self.shelf.entries;
  room : length l.initial.self.shelf.entries < l.wider.slots;
  spare : length l.self.shelf.entries ≤ spare l.wider.index;
}

abbrev pub decreases-loop-oldest : goal.decreases-loop-oldest
decreases-loop-oldest l = length l.self.shelf.entries
