use Rattle.history_judge.proofs.Vocabulary.{⊎_elim, inl, inr, ◌∷◌, [], ap, sym, subst, ◌∙◌, length, arith, slice_get, none-some, Ends}
use Rattle.history_judge.proofs.Places.{at_left, at_end, at_pushed, at_within}
use Rattle.history_judge.proofs.Standing.{holds_kept}
use Rattle.history_judge.proofs.Going.{ends_kept}
use Rattle.history_judge.proofs.event.Event.step_alone.Goals as goal

pub loop-placed-init : goal.loop-placed-init
loop-placed-init c = record {
  hold = λ place placed at. absurd (none-some placed (ap (λ l. slice_get l place) (sym c.new-found.ensures) ∙ at));
  rest = c.requires.hold;
  ends = λ ends. inl ends;
}

pub step-requires-clause-hold : goal.step-requires-clause-hold
step-requires-clause-hold c = c.loop-placed.invariant.hold

pub step-requires-clause-holds : goal.step-requires-clause-holds
step-requires-clause-holds c =
    c.loop-placed.invariant.rest (length c.pop.new.self.items) c.in-Some.placed
    (ap (λ l. slice_get l (length c.pop.new.self.items)) c.in-Some.ensures.items ∙ at_end c.pop.new.self.items c.in-Some.placed)

pub loop-placed-preserved : goal.loop-placed-preserved
loop-placed-preserved c =
    let left = c.pop.new.self.items in
    let stepped = c.in_ok-step.ensures in
    record {
      hold = stepped.grown.hold;
      rest = λ place other at. holds_kept c.args.self.now.opening.now c.args.self.now.history.now c.args.self.now.settled.now c.loop-placed.links.items c.step.new.links.items other stepped.grown.links_kept
          (c.loop-placed.invariant.rest place other (ap (λ l. slice_get l place) c.in-Some.ensures.items ∙ at_left left (c.in-Some.placed ∷ []) place other at));
      ends = λ ends. ⊎_elim
          (λ here. ⊎_elim (λ stays. inl (here.0, here.1, stays, here.3))
          (λ same. inr (stepped.ends (subst (Ends c.args.self.now.opening.now c.args.self.now.history.now c.args.self.now.settled.now) (sym same) here.3)))
          (at_pushed left c.in-Some.placed here.0 here.1 (ap (λ l. slice_get l here.0) (sym c.in-Some.ensures.items) ∙ here.2)))
          (λ some. inr (ends_kept c.args.self.now.opening.now c.args.self.now.history.now c.args.self.now.settled.now c.loop-placed.found.list.items c.step.new.found.list.items stepped.grown.found_kept some))
          (c.loop-placed.invariant.ends ends);
    }

pub returns-clause-ends : goal.returns-clause-ends
returns-clause-ends c = λ ends. ⊎_elim
    (λ here. absurd (let within = at_within c.loop-placed.first.list.items here.0 here.1 here.2 in let long = c.loop-placed.first.list.ok.0 in let none = c.in_default.ensures.cases.0 in omega (arith, within, long, none)))
    (λ some. some)
    (c.loop-placed.invariant.ends ends)
