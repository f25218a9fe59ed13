use Rattle.history_judge.proofs.Vocabulary.{inr, subst, Result, Ok, Err, OnOk, IsNext}
use Rattle.history_judge.proofs.Going.{all_kept, grown_from, passed_more}
use Rattle.history_judge.proofs.event.Event.place_other.Goals as goal

on_ok : {A E P Q : Type 0} (result : Result A E) → OnOk result P → (P → Q) → OnOk result Q
on_ok (Ok a) first more = more first
on_ok (Err e) first more = first

pub admit-requires-clause-hold : goal.admit-requires-clause-hold
admit-requires-clause-hold c = all_kept c.args.self.now.opening.now c.args.self.now.history.now c.args.self.now.settled.now c.args.links.now.items c.next.new.links.items c.args.found.now.list.items c.in_ok-next.ensures.kept c.requires.hold

pub returns-in-Some-clause-grown : goal.returns-in-Some-clause-grown
returns-in-Some-clause-grown c = on_ok c.admit.result c.admit.ensures (λ admitted.
    grown_from c.args.self.now.opening.now c.args.self.now.history.now c.args.self.now.settled.now c.args.links.now.items c.next.new.links.items c.admit.new.links.items c.args.found.now.list.items c.admit.new.found.list.items
    c.in_ok-next.ensures.kept admitted.grown)

pub returns-in-Some-clause-tried : goal.returns-in-Some-clause-tried
returns-in-Some-clause-tried c =
    let next = subst (IsNext c.args.self.now.opening.now c.args.self.now.history.now c.args.self.now.settled.now c.next.new.links.items c.args.placed.now c.args.number) c.in-Some.is c.in_ok-next.ensures.next in
    on_ok c.admit.result c.admit.ensures (λ admitted.
    inr (inr (passed_more c.args.self.now.opening.now c.args.self.now.history.now c.args.self.now.settled.now c.args.links.now.items c.next.new.links.items c.admit.new.links.items c.args.found.now.list.items c.admit.new.found.list.items
    c.args.number c.args.placed.now c.in-Some.next next admitted)))

pub returns-in-None-clause-grown : goal.returns-in-None-clause-grown
returns-in-None-clause-grown c = record {
  links_kept = c.in_ok-next.ensures.kept;
  found_kept = λ place x at. at;
  hold = all_kept c.args.self.now.opening.now c.args.self.now.history.now c.args.self.now.settled.now c.args.links.now.items c.next.new.links.items c.args.found.now.list.items c.in_ok-next.ensures.kept c.requires.hold;
}
