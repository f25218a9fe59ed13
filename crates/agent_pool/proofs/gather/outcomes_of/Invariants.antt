use Rattle.agent_pool.proofs.Vocabulary.{◌≢◌, ℕ, ◌<◌, None, Some, slice_get}
use Rattle.agent_pool.proofs.gather.outcomes_of.Given as goal

abbrev pub invariant-loop-place : goal.invariant-loop-place
invariant-loop-place l = (k : ℕ) → k < l.place → slice_get l.fn.slots k ≢ Some None
