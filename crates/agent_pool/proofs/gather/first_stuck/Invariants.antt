use Rattle.agent_pool.proofs.Vocabulary.{◌≡◌, length, first_stuck}
use Rattle.agent_pool.proofs.gather.first_stuck.Given as goal

abbrev pub invariant-loop-one : goal.invariant-loop-one
invariant-loop-one l = first_stuck l.rest ≡ first_stuck l.worked

abbrev pub decreases-loop-one : goal.decreases-loop-one
decreases-loop-one l = length l.rest
