use Rattle.weak_cache.proofs.Vocabulary.{◌≡◌, length, forgotten, IsKept, values}
use Rattle.weak_cache.proofs.kept.Kept.forget.Given as goal

abbrev pub invariant-loop-oldest : goal.invariant-loop-oldest
invariant-loop-oldest l = record {
  kept : IsKept l.self;
  same : forgotten l.site (values l.self.shelf.entries) ≡ forgotten l.site (values l.initial.self.shelf.entries);
}

abbrev pub decreases-loop-oldest : goal.decreases-loop-oldest
decreases-loop-oldest l = length l.self.shelf.entries
