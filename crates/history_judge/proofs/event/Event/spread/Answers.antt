use Rattle.history_judge.proofs.Vocabulary.{◌⊎◌, ◌≡◌, ⊎_elim, inl, inr, sym, ap, subst, ◌∙◌, arith, Result, Ok, Err, OnOk, slice_get, get_or, same_Some}
use Rattle.history_judge.proofs.Vocabulary.{Contains-get_or, IsPassed, IsDone}
use Rattle.history_judge.proofs.Among.{below_or}
use Rattle.history_judge.proofs.Places.{at_get, get_same}
use Rattle.history_judge.proofs.Standing.{holds_kept}
use Rattle.history_judge.proofs.Going.{grown_none, grown_then, done_kept, comes_on}
use Rattle.history_judge.proofs.Waiting.{passed_all}
use Rattle.history_judge.proofs.event.Event.spread.Goals as goal

on_both : {A E P Q R : Type 0} (result : Result A E) → OnOk result P → OnOk result Q → (P → Q → R) → OnOk result R
on_both (Ok a) first second both = both first second
on_both (Err e) first second both = first

pub loop-i-init : goal.loop-i-init
loop-i-init c = record {
  grown = grown_none c.args.self.now.opening.now c.args.self.now.history.now c.args.self.now.settled.now c.args.links.now.items c.args.found.now.list.items c.requires.hold;
  tried = λ k number below. absurd (omega (arith, below));
}

pub place_other-requires-clause-pending : goal.place_other-requires-clause-pending
place_other-requires-clause-pending c = Contains-get_or c.args.self.now.pending.now c.loop-i.i 0 c.loop-i-test.true

pub place_other-requires-clause-hold : goal.place_other-requires-clause-hold
place_other-requires-clause-hold c = c.loop-i.invariant.grown.hold

pub place_other-requires-clause-holds : goal.place_other-requires-clause-holds
place_other-requires-clause-holds c = holds_kept c.args.self.now.opening.now c.args.self.now.history.now c.args.self.now.settled.now c.args.links.now.items c.loop-i.links.items c.args.placed c.loop-i.invariant.grown.links_kept c.requires.holds

pub loop-i-preserved : goal.loop-i-preserved
loop-i-preserved c =
    let pending = c.args.self.now.pending.now in
    let found = c.loop-i.found.list.items in
    let found' = c.place_other.new.found.list.items in
    record {
      grown = grown_then c.args.self.now.opening.now c.args.self.now.history.now c.args.self.now.settled.now c.args.links.now.items c.loop-i.links.items c.place_other.new.links.items c.args.found.now.list.items found found'
          c.loop-i.invariant.grown c.in_ok-place_other.ensures.grown;
      tried = λ k number below at. ⊎_elim
          (λ before. ⊎_elim (λ same. inl same)
          (λ passed. inr (done_kept c.args.self.now.opening.now c.args.self.now.history.now c.args.self.now.settled.now found found' pending c.args.placed number c.in_ok-place_other.ensures.grown.found_kept passed))
          (c.loop-i.invariant.tried k number before at))
          (λ same. subst (λ number. (number ≡ c.args.self.now.due.number) ⊎ IsDone c.args.self.now.opening.now c.args.self.now.history.now c.args.self.now.settled.now pending found' c.args.placed number)
          (same_Some (get_or pending c.loop-i.i 0) number (sym (at_get pending c.loop-i.i (get_or pending c.loop-i.i 0) c.loop-i-test.true (get_same pending c.loop-i.i c.loop-i-test.true)) ∙ ap (slice_get pending) (sym same) ∙ at))
          c.in_ok-place_other.ensures.tried)
          (below_or k c.loop-i.i below);
    }

pub place_due-requires-clause-hold : goal.place_due-requires-clause-hold
place_due-requires-clause-hold c = c.loop-i.invariant.grown.hold

pub place_due-requires-clause-holds : goal.place_due-requires-clause-holds
place_due-requires-clause-holds c = holds_kept c.args.self.now.opening.now c.args.self.now.history.now c.args.self.now.settled.now c.args.links.now.items c.loop-i.links.items c.args.placed c.loop-i.invariant.grown.links_kept c.requires.holds

pub returns-clause-grown : goal.returns-clause-grown
returns-clause-grown c = on_both c.place_due.result c.place_due.ensures.grown c.place_due.ensures.grown (λ grown same.
    grown_then c.args.self.now.opening.now c.args.self.now.history.now c.args.self.now.settled.now c.args.links.now.items c.loop-i.links.items c.place_due.new.links.items c.args.found.now.list.items c.loop-i.found.list.items c.place_due.new.found.list.items
    c.loop-i.invariant.grown grown)

pub returns-clause-on : goal.returns-clause-on
returns-clause-on c =
    let past = c.loop-i-test.false in
    on_both c.place_due.result c.place_due.ensures.grown c.place_due.ensures.tried (λ grown last.
    comes_on c.args.self.now.opening.now c.args.self.now.history.now c.args.self.now.settled.now c.args.self.now.pending.now c.args.self.now.due c.requires.due c.place_due.new.found.list.items c.args.placed c.requires.lacks
    (passed_all c.args.self.now.opening.now c.args.self.now.history.now c.args.self.now.settled.now c.args.self.now.pending.now c.args.self.now.due c.requires.due c.place_due.new.found.list.items c.args.placed (λ number there.
    let within = there.1 in
    ⊎_elim (λ same. inr (subst (IsPassed c.args.self.now.opening.now c.args.self.now.history.now c.args.self.now.settled.now c.place_due.new.found.list.items c.args.placed) (sym same) last))
    (λ done. done_kept c.args.self.now.opening.now c.args.self.now.history.now c.args.self.now.settled.now c.loop-i.found.list.items c.place_due.new.found.list.items c.args.self.now.pending.now c.args.placed number grown.found_kept done)
    (c.loop-i.invariant.tried there.0 number (omega (arith, within, past)) (at_get c.args.self.now.pending.now there.0 number there.1 (sym there.2))))))
