use Rattle.history_judge.proofs.Vocabulary.{subst, sym, Result, Ok, Err, Contains, OnOk}
use Rattle.history_judge.proofs.Going.{grown_added, ends_added, spread_ends}
use Rattle.history_judge.proofs.event.Event.step.Goals as goal

on_ok : {A E P Q : Type 0} (result : Result A E) → OnOk result P → (P → Q) → OnOk result Q
on_ok (Ok a) first more = more first
on_ok (Err e) first more = first

pub returns-then-is_among-clause-grown : goal.returns-then-is_among-clause-grown
returns-then-is_among-clause-grown c = on_ok c.add.result c.add.ensures (λ added.
    grown_added c.args.self.now.opening.now c.args.self.now.history.now c.args.self.now.settled.now c.args.links.now.items c.args.found.now.list.items c.add.new.self.list.items c.args.placed c.requires.hold c.requires.holds added)

pub returns-then-is_among-clause-ends : goal.returns-then-is_among-clause-ends
returns-then-is_among-clause-ends c = on_ok c.add.result c.add.ensures (λ added.
    ends_added c.args.self.now.opening.now c.args.self.now.history.now c.args.self.now.settled.now c.args.found.now.list.items c.add.new.self.list.items c.args.placed added)

pub spread-requires-clause-lacks : goal.spread-requires-clause-lacks
spread-requires-clause-lacks c = λ there. c.is_among.ensures.no c.if-is_among.false (subst (λ l. Contains l c.args.self.now.due.number) (sym c.deref.ensures.value) there)

pub returns-clause-ends : goal.returns-clause-ends
returns-clause-ends c = on_ok c.spread.result c.spread.ensures.on (λ on.
    spread_ends c.args.self.now.opening.now c.args.self.now.history.now c.args.self.now.settled.now c.args.self.now.pending.now c.args.self.now.due c.requires.due c.spread.new.found.list.items c.args.placed
    (λ there. c.is_among.ensures.no c.if-is_among.false (subst (λ l. Contains l c.args.self.now.due.number) (sym c.deref.ensures.value) there)) on)
