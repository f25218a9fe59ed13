use Rattle.weak_cache.proofs.Vocabulary.{◌≡◌, ◌++◌, length, from_on, values}
use Rattle.weak_cache.proofs.kept.Kept.copies.Given as goal

-- what was copied, and then what is still to come
abbrev pub invariant-loop-next : goal.invariant-loop-next
invariant-loop-next l = l.copies.items ++ values (from_on l.next l.self.shelf.entries) ≡ values l.self.shelf.entries

abbrev pub decreases-loop-next : goal.decreases-loop-next
decreases-loop-next l = length (from_on l.next l.self.shelf.entries)
