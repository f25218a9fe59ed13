use Rattle.sorted_map.proofs.Vocabulary.{ap, IsOrdered-replace}
use Rattle.sorted_map.proofs.roomy.RoomyMap.value_mut.Goals as goal

-- whatever is written, the keys stay
pub invariant_of-self-lent : goal.invariant_of-self-lent
invariant_of-self-lent g c w =
    let same = ap (λ v. v.pairs) c.self.view_is in
    rw (same, c.requires.replaced c.index_mut-pair.result.now w (rw same at c.index_mut-pair.ensures.value)) (IsOrdered-replace g.met.K.Ord.total _ _ _ (rw same at c.self.invariant))
