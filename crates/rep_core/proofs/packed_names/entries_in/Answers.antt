use Rattle.rep_core.proofs.Vocabulary.{ℕ, [], ◌∷◌, ◌++◌, length, ap, ◌∙◌, eqb, rules, tests, slice_split, unnumbered}
use Rattle.std.proofs.lemmas.Iterator.Splits.{YieldsList-from_slice_split}
use Rattle.std.proofs.lemmas.Iterator.Consumers.{YieldsList-turn, YieldsList-end}
use Rattle.rep_core.proofs.PackedNames.{name_at, unnumbered-push}
use Rattle.rep_core.proofs.packed_names.entries_in.Goals as goal

pub known-requires : goal.known-requires
known-requires c =
    let turn = YieldsList-turn (YieldsList-from_slice_split _ (λ b. eqb b 44) c.args.text.now (cc) (cc) (cc) (λ x b q k. search (rules, tests))) c.loop-name.yielded _
    c.loop-name.yielded_by _ _ c.in-Some.name c.in-Some.is c.next.ensures.steps in
    name_at (slice_split (λ (b : ℕ). eqb b 44) c.args.text.now) (length c.loop-name.yielded) c.in-Some.name.now turn.0 turn.1 c.requires

pub loop-name-preserved : goal.loop-name-preserved
loop-name-preserved c = (
  search rules,
  search rules,
  c.in_ok-push.ensures.items ∙ (λ i. c.loop-name.invariant.2 i ++ (c.known.ensures i, 0) ∷ []) ∙ unnumbered-push c.loop-name.yielded c.in-Some.name,
)

pub returns : goal.returns
returns c =
    let end = YieldsList-end (YieldsList-from_slice_split _ (λ b. eqb b 44) c.args.text.now (cc) (cc) (cc) (λ x b q k. search (rules, tests))) c.loop-name.yielded _ c.loop-name.yielded_by _ _ c.in-None.is c.next.ensures.steps in
    c.loop-name.invariant.2 ∙ ap unnumbered end.0
