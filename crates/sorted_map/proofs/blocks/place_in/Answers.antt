use Rattle.sorted_map.proofs.Vocabulary.{subst, sym, ◌∷◌, IsOrdered, joined, IsIn}
use Rattle.sorted_map.proofs.InBlocks.{ordered_behind}
use Rattle.sorted_map.proofs.blocks.place_in.Goals as goal

pub place-requires-clause-ordered : goal.place-requires-clause-ordered
place-requires-clause-ordered g c =
    subst (λ l. IsOrdered g.K.Ord.cmp (joined l)) (sym c.deref.ensures.value) (ordered_behind g.met.K.Ord.total c.args.key.now c.args.first.now.pairs (joined c.args.rest.now.items) c.requires.ordered)

pub returns-clause-place : goal.returns-clause-place
returns-clause-place g c =
    subst (λ l. IsIn g.K.Ord.cmp c.args.key.now (c.args.first.now ∷ l) c.place.result) c.deref.ensures.value
    (c.place.ensures.place c.args.first.now (subst (λ l. IsOrdered g.K.Ord.cmp (joined (c.args.first.now ∷ l))) (sym c.deref.ensures.value) c.requires.ordered))
