use Rattle.rep_core.proofs.Vocabulary.{ap, ◌∙◌, Locking, are_none}
use Rattle.rep_core.proofs.KeptLocks.{none_of}
use Rattle.rep_core.proofs.many_locks.ManyLocks.is_empty.Goals as goal

pub returns : goal.returns
returns c = none_of c.is_empty.result c.self.inside.locks.pairs c.is_empty.ensures.0 c.is_empty.ensures.1 ∙ ap (λ (many : Locking). are_none many.locks) c.self.view_is
