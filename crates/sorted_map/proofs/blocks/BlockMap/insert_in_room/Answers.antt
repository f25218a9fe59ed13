use Rattle.sorted_map.proofs.Vocabulary.{◌≡◌, ◌-◌, ◌<◌, ◌∷◌, ◌++◌, None, subst, sym, ◌∙◌, ap, arith, IsOrdered, get, insert, IsOrdered-insert, joined, IsIn}
use Rattle.sorted_map.proofs.InBlocks.{get_front, insert_front, in_rest, in_range, can_take, room_behind, AreBelow}
use Rattle.sorted_map.proofs.blocks.BlockMap.insert_in_room.Given.{Over}
use Rattle.sorted_map.proofs.blocks.BlockMap.insert_in_room.Goals as goal

pub put_first-requires-clause-room : goal.put_first-requires-clause-room
put_first-requires-clause-room g c =
    let above = subst (IsIn g.K.Ord.cmp c.args.key (c.self.inside.first ∷ c.self.inside.rest.items)) c.if-at-eq0.true c.place_in-at.ensures.place in
    can_take g.met.K.Ord.total c.args.key c.self.inside.first c.self.inside.rest.items c.self.inside.spare.items above c.self.invariant.3
    (subst (λ v. get g.K.Ord.cmp v.pairs c.args.key ≡ None → 0 < v.room) (sym c.self.view_is) c.requires)

pub invariant_of-self : goal.invariant_of-self
invariant_of-self g c =
    let put = c.put_first.ensures in
    (subst (IsOrdered g.K.Ord.cmp) (sym put.pairs) (IsOrdered-insert g.met.K.Ord.total _ _ _ c.self.invariant.0), put.blocks, put.spare, λ has. omega (arith, put.first, c.self.invariant.3 (put.fewer has)), put.space)

pub returns-then-at-eq0-clause-ordered : goal.returns-then-at-eq0-clause-ordered
returns-then-at-eq0-clause-ordered g c = subst (IsOrdered g.K.Ord.cmp) (sym c.put_first.ensures.pairs) (IsOrdered-insert g.met.K.Ord.total _ _ _ c.self.invariant.0)

pub put_in-requires-clause-room : goal.put_in-requires-clause-room
put_in-requires-clause-room g c =
    let o = g.met.K.Ord.total in
    let first = c.self.inside.first in
    let rest = c.self.inside.rest.items in
    let both = in_rest o c.args.key first rest c.place_in-at.result c.place_in-at.ensures.place (omega (arith, c.if-at-eq0.false)) in
    let room = subst (λ v. get g.K.Ord.cmp v.pairs c.args.key ≡ None → 0 < v.room) (sym c.self.view_is) c.requires in
    let within = in_range o c.args.key rest (c.place_in-at.result - 1) both.1 in
    λ absent. subst (λ n. 0 < n) (room_behind o c.args.key first rest c.self.inside.spare.items (omega (arith, within))) (room (get_front o c.args.key first.pairs (joined rest) both.0 ∙ absent))

below : (g : Over) (c : goal.After-put_in g) → AreBelow g.met.K.Ord.total c.args.key c.self.inside.first.pairs
below g c = (in_rest g.met.K.Ord.total c.args.key c.self.inside.first c.self.inside.rest.items c.place_in-at.result c.place_in-at.ensures.place (omega (arith, c.if-at-eq0.false))).0

put : (g : Over) (c : goal.After-put_in g) → c.self.inside.first.pairs ++ joined c.put_in.new.rest.items ≡ insert g.K.Ord.cmp (joined (c.self.inside.first ∷ c.self.inside.rest.items)) c.args.key c.args.value
put g c = ap (λ l. c.self.inside.first.pairs ++ l) c.put_in.ensures.pairs ∙ sym (insert_front g.met.K.Ord.total c.args.key c.self.inside.first.pairs (joined c.self.inside.rest.items) c.args.value (below g c))

pub invariant_of-self-else-at-eq0 : goal.invariant_of-self-else-at-eq0
invariant_of-self-else-at-eq0 g c =
    let done = c.put_in.ensures in
    (subst (IsOrdered g.K.Ord.cmp) (sym (put g c)) (IsOrdered-insert g.met.K.Ord.total _ _ _ c.self.invariant.0), done.blocks, done.spare, λ has. c.self.invariant.3 (done.fewer has), done.space)

pub returns-else-at-eq0-clause-ordered : goal.returns-else-at-eq0-clause-ordered
returns-else-at-eq0-clause-ordered g c = subst (IsOrdered g.K.Ord.cmp) (sym (put g c)) (IsOrdered-insert g.met.K.Ord.total _ _ _ c.self.invariant.0)

pub returns-else-at-eq0-clause-before : goal.returns-else-at-eq0-clause-before
returns-else-at-eq0-clause-before g c =
    c.put_in.ensures.before ∙ sym (get_front g.met.K.Ord.total c.args.key c.self.inside.first.pairs (joined c.self.inside.rest.items) (below g c)) ∙ ap (λ v. get g.K.Ord.cmp v.pairs c.args.key) c.self.view_is

pub returns-else-at-eq0-clause-pairs : goal.returns-else-at-eq0-clause-pairs
returns-else-at-eq0-clause-pairs g c = put g c ∙ ap (λ v. insert g.K.Ord.cmp v.pairs c.args.key c.args.value) c.self.view_is
