use Rattle.agent_pool.proofs.Vocabulary.{◌≡◌, length, first_strange}
use Rattle.agent_pool.proofs.gather.first_strange.Given as goal

abbrev pub invariant-loop-one : goal.invariant-loop-one
invariant-loop-one l = first_strange l.rest ≡ first_strange l.worked

abbrev pub decreases-loop-one : goal.decreases-loop-one
decreases-loop-one l = length l.rest
