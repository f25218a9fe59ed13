use Rattle.history_judge.proofs.Vocabulary.{◌⊎◌, length, SomeEnds, AllHold}
use Rattle.history_judge.proofs.event.Event.step_alone.Given as goal

abbrev pub invariant-loop-placed : goal.invariant-loop-placed
invariant-loop-placed l = record {
  hold : AllHold l.self.opening.now l.self.history.now l.links.items l.self.settled.now l.found.list.items;
  rest : AllHold l.self.opening.now l.self.history.now l.links.items l.self.settled.now l.first.list.items;
  ends : SomeEnds l.self.opening.now l.self.history.now l.self.settled.now l.fn.first.list.items
      → SomeEnds l.self.opening.now l.self.history.now l.self.settled.now l.first.list.items ⊎ SomeEnds l.self.opening.now l.self.history.now l.self.settled.now l.found.list.items;
}

abbrev pub decreases-loop-placed : goal.decreases-loop-placed
decreases-loop-placed l = length l.first.list.items
