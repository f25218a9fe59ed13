use Rattle.sorted_map.proofs.Vocabulary.{◌≡◌, ◌-◌, ◌∷◌, ◌++◌, subst, sym, ◌∙◌, ap, arith, IsOrdered, get, remove, IsOrdered-remove, joined, IsIn}
use Rattle.sorted_map.proofs.InBlocks.{get_back, get_front, remove_back, remove_front, in_rest, removed_capacity, AreAbove, AreBelow}
use Rattle.sorted_map.proofs.blocks.BlockMap.remove.Given.{Over}
use Rattle.sorted_map.proofs.blocks.BlockMap.remove.Goals as goal

above : (g : Over) (c : goal.After-remove g) → AreAbove g.met.K.Ord.total c.args.key.now (joined c.self.inside.rest.items)
above g c = subst (IsIn g.K.Ord.cmp c.args.key.now (c.self.inside.first ∷ c.self.inside.rest.items)) c.if-at-eq0.true c.place_in-at.ensures.place

removed : (g : Over) (c : goal.After-remove g) → c.remove.new.self.pairs ++ joined c.self.inside.rest.items ≡ remove g.K.Ord.cmp (joined (c.self.inside.first ∷ c.self.inside.rest.items)) c.args.key.now
removed g c = ap (λ l. l ++ joined c.self.inside.rest.items) c.remove.ensures.pairs ∙ sym (remove_back g.met.K.Ord.total c.args.key.now c.self.inside.first.pairs (joined c.self.inside.rest.items) (above g c))

pub returns-then-at-eq0-clause-ordered : goal.returns-then-at-eq0-clause-ordered
returns-then-at-eq0-clause-ordered g c = subst (IsOrdered g.K.Ord.cmp) (sym (removed g c)) (IsOrdered-remove g.met.K.Ord.total _ _ c.self.invariant.0)

pub invariant_of-self : goal.invariant_of-self
invariant_of-self g c =
    let same = removed_capacity g.met.K.Ord.total c.args.key.now c.self.inside.first c.remove.new.self c.remove.result c.remove.ensures.before c.remove.ensures.pairs c.remove.ensures.room in
    (subst (IsOrdered g.K.Ord.cmp) (sym (removed g c)) (IsOrdered-remove g.met.K.Ord.total _ _ c.self.invariant.0), c.self.invariant.1, c.self.invariant.2, λ has. omega (arith, same, c.self.invariant.3 has), c.self.invariant.4)

pub returns-then-at-eq0-clause-before : goal.returns-then-at-eq0-clause-before
returns-then-at-eq0-clause-before g c =
    c.remove.ensures.before ∙ sym (get_back g.met.K.Ord.total c.args.key.now c.self.inside.first.pairs (joined c.self.inside.rest.items) (above g c)) ∙ ap (λ v. get g.K.Ord.cmp v.pairs c.args.key.now) c.self.view_is

pub returns-then-at-eq0-clause-pairs : goal.returns-then-at-eq0-clause-pairs
returns-then-at-eq0-clause-pairs g c = removed g c ∙ ap (λ v. remove g.K.Ord.cmp v.pairs c.args.key.now) c.self.view_is

both : (g : Over) (c : goal.After-remove_in g) → AreBelow g.met.K.Ord.total c.args.key.now c.self.inside.first.pairs × IsIn g.K.Ord.cmp c.args.key.now c.self.inside.rest.items (c.place_in-at.result - 1)
both g c = in_rest g.met.K.Ord.total c.args.key.now c.self.inside.first c.self.inside.rest.items c.place_in-at.result c.place_in-at.ensures.place (omega (arith, c.if-at-eq0.false))

removed_in : (g : Over) (c : goal.After-remove_in g) → c.self.inside.first.pairs ++ joined c.remove_in.new.rest.items ≡ remove g.K.Ord.cmp (joined (c.self.inside.first ∷ c.self.inside.rest.items)) c.args.key.now
removed_in g c = ap (λ l. c.self.inside.first.pairs ++ l) c.remove_in.ensures.pairs ∙ sym (remove_front g.met.K.Ord.total c.args.key.now c.self.inside.first.pairs (joined c.self.inside.rest.items) (both g c).0)

pub returns-else-at-eq0-clause-ordered : goal.returns-else-at-eq0-clause-ordered
returns-else-at-eq0-clause-ordered g c = subst (IsOrdered g.K.Ord.cmp) (sym (removed_in g c)) (IsOrdered-remove g.met.K.Ord.total _ _ c.self.invariant.0)

pub invariant_of-self-else-at-eq0 : goal.invariant_of-self-else-at-eq0
invariant_of-self-else-at-eq0 g c = (
  subst (IsOrdered g.K.Ord.cmp) (sym (removed_in g c)) (IsOrdered-remove g.met.K.Ord.total _ _ c.self.invariant.0),
  c.remove_in.ensures.blocks,
  c.self.invariant.2,
  c.self.invariant.3,
  omega (arith, c.remove_in.ensures.fewer, c.remove_in.ensures.capacity, c.self.invariant.4),
)

pub returns-else-at-eq0-clause-before : goal.returns-else-at-eq0-clause-before
returns-else-at-eq0-clause-before g c =
    c.remove_in.ensures.before ∙ sym (get_front g.met.K.Ord.total c.args.key.now c.self.inside.first.pairs (joined c.self.inside.rest.items) (both g c).0) ∙ ap (λ v. get g.K.Ord.cmp v.pairs c.args.key.now) c.self.view_is

pub returns-else-at-eq0-clause-pairs : goal.returns-else-at-eq0-clause-pairs
returns-else-at-eq0-clause-pairs g c = removed_in g c ∙ ap (λ v. remove g.K.Ord.cmp v.pairs c.args.key.now) c.self.view_is
