use Rattle.weak_cache.proofs.Vocabulary.{◌≡◌, ◌++◌, length, IsKept, values}
use Rattle.weak_cache.proofs.kept.Kept.copy.Given as goal

-- what is still to be put, and then what was
abbrev pub invariant-loop-entry : goal.invariant-loop-entry
invariant-loop-entry l = record {
  kept : IsKept l.copy;
  same : l.left.items ++ values l.copy.shelf.entries ≡ values l.self.shelf.entries;
  slots : l.copy.slots ≡ l.self.slots;
}

abbrev pub decreases-loop-entry : goal.decreases-loop-entry
decreases-loop-entry l = length l.left.items
