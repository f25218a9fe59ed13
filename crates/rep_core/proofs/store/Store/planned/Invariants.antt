use Rattle.rep_core.proofs.Vocabulary.{◌≡◌, ◌++◌, drop, planned_of}
use Rattle.rep_core.proofs.store.Store.planned.Given as goal

abbrev pub invariant-loop-part : goal.invariant-loop-part
invariant-loop-part l = l.made.items ++ planned_of l.fn.self.store.c0 l.fn.self.store.copies l.t (drop l.part-index l.parts) ≡ planned_of l.fn.self.store.c0 l.fn.self.store.copies l.t l.parts
