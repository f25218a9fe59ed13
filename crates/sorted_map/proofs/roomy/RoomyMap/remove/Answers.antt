use Rattle.sorted_map.proofs.Vocabulary.{sym, ap, IsOrdered-remove, remove_absent}
use Rattle.sorted_map.proofs.roomy.RoomyMap.remove.Goals as goal

pub invariant_of-self : goal.invariant_of-self
invariant_of-self g c = rw (c.remove-value.ensures.items, ap (λ v. v.pairs) c.self.view_is, c.in-Ok.ensures.found.removed) (IsOrdered-remove g.met.K.Ord.total _ _ (rw (ap (λ v. v.pairs) c.self.view_is) at c.self.invariant))

pub returns-in-Ok-clause-ordered : goal.returns-in-Ok-clause-ordered
returns-in-Ok-clause-ordered g c = invariant_of-self g c

pub returns-in-Err-clause-pairs : goal.returns-in-Err-clause-pairs
returns-in-Err-clause-pairs g c = sym (remove_absent g.met.K.Ord.total _ _ c.in-Err.ensures.absent.absent)
