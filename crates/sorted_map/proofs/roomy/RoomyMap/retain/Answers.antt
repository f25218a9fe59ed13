use Rattle.sorted_map.proofs.Vocabulary.{subst, sym, IsOrdered}
use Rattle.sorted_map.proofs.Kept.{ordered_kept}
use Rattle.sorted_map.proofs.roomy.RoomyMap.retain.Goals as goal

pub invariant_of-self : goal.invariant_of-self
invariant_of-self g c =
    let kept = c.retain.ensures.filtered in
    subst (IsOrdered g.K.Ord.cmp) (sym kept.4) (ordered_kept g.K.Ord.cmp kept.0 c.self.inside.pairs.items c.self.invariant)

pub returns-clause-ordered : goal.returns-clause-ordered
returns-clause-ordered g c = invariant_of-self g c
