use Rattle.history_judge.proofs.Vocabulary.{◌≡◌, ℕ, ◌<◌, Some, slice_get, Op, DoSame}
use Rattle.history_judge.proofs.alike.same_ops.Given as goal

abbrev pub invariant-loop-i : goal.invariant-loop-i
invariant-loop-i l = (place : ℕ) (op other : Op) → place < l.i → slice_get l.own place ≡ Some op → slice_get l.theirs place ≡ Some other → DoSame op other
