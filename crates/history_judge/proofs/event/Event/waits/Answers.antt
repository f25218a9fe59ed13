use Rattle.history_judge.proofs.Vocabulary.{subst, Waits}
use Rattle.history_judge.proofs.event.Event.waits.Goals as goal

pub returns : goal.returns
returns c = λ is. subst (λ early. Waits c.args.self.now.history.now c.args.self.now.pending.now early c.args.number) c.deref.ensures.value (c.waits.ensures is)

pub waits-requires : goal.waits-requires
waits-requires c = c.requires.due.made c.args.number c.requires.pending
