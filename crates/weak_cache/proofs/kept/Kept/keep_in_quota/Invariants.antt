use Rattle.weak_cache.proofs.Vocabulary.{◌≡◌, length, within_quota, IsKept, values}
use Rattle.weak_cache.proofs.kept.Kept.keep_in_quota.Given as goal

abbrev pub invariant-loop-self : goal.invariant-loop-self
invariant-loop-self l = record {
  kept : IsKept l.self;
  same : within_quota l.site l.room (values l.self.shelf.entries) ≡ within_quota l.site l.room (values l.initial.self.shelf.entries);
}

abbrev pub decreases-loop-self : goal.decreases-loop-self
decreases-loop-self l = length l.self.shelf.entries
