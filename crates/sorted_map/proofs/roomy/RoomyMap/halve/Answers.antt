use Rattle.sorted_map.proofs.Vocabulary.{subst, sym, ap, arith, length, IsOrdered}
use Rattle.sorted_map.proofs.InBlocks.{ordered_take, ordered_drop}
use Rattle.sorted_map.proofs.roomy.RoomyMap.halve.Goals as goal

pub invariant_of-self : goal.invariant_of-self
invariant_of-self g c = subst (IsOrdered g.K.Ord.cmp) (sym c.move_behind.ensures.kept) (ordered_take g.K.Ord.cmp c.args.keep c.self.inside.pairs.items c.self.invariant)

pub invariant_of-upper : goal.invariant_of-upper
invariant_of-upper g c = subst (IsOrdered g.K.Ord.cmp) (sym c.move_behind.ensures.moved) (ordered_drop g.K.Ord.cmp c.args.keep c.self.inside.pairs.items c.self.invariant)

pub returns-clause-lower_room : goal.returns-clause-lower_room
returns-clause-lower_room g c =
    let was = c.move_behind.ensures in
    omega (arith, was.len, was.was_len, was.within, was.capacity, c.requires.keep, ap (λ v. v.room) c.self.view_is, ap (λ v. length v.pairs) c.self.view_is)
