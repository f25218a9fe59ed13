use Rattle.sorted_map.proofs.Vocabulary.{◌≡◌, ap, set, insert, IsOrdered-insert}
use Rattle.sorted_map.proofs.roomy.RoomyMap.insert.Given.{Over}
use Rattle.sorted_map.proofs.roomy.RoomyMap.insert.Goals as goal

-- a value written over the one at the key's place is one put at the key
written : (g : Over) (c : goal.After-drop-key g) → set c.self.inside.pairs.items c.in-Ok.at (c.index_mut.result.now.0, c.replace.new.dest) ≡ insert g.K.Ord.cmp c.self.inside.pairs.items c.args.key c.args.value
written g c =
    let same = ap (λ v. v.pairs) c.self.view_is in
    rw (c.replace.ensures.after, same) (c.in-Ok.ensures.found.inserted c.index_mut.result.now c.args.value (rw same at c.index_mut.ensures.value))

pub invariant_of-self : goal.invariant_of-self
invariant_of-self g c = rw (written g c) (IsOrdered-insert g.met.K.Ord.total _ _ _ c.self.invariant)

pub invariant_of-self-in-Err : goal.invariant_of-self-in-Err
invariant_of-self-in-Err g c = rw (c.in_ok-insert-in-Err.ensures.items, ap (λ v. v.pairs) c.self.view_is, c.in-Err.ensures.absent.inserted c.args.value)
    (IsOrdered-insert g.met.K.Ord.total _ _ _ (rw (ap (λ v. v.pairs) c.self.view_is) at c.self.invariant))

pub returns-in-Ok-clause-ok : goal.returns-in-Ok-clause-ok
returns-in-Ok-clause-ok g c = rw (← ap (λ v. v.pairs) c.self.view_is) (written g c)

pub returns-in-Ok-clause-ordered : goal.returns-in-Ok-clause-ordered
returns-in-Ok-clause-ordered g c = invariant_of-self g c

pub returns-in_ok-insert-in-Err-clause-ordered : goal.returns-in_ok-insert-in-Err-clause-ordered
returns-in_ok-insert-in-Err-clause-ordered g c = invariant_of-self-in-Err g c
