use Rattle.agent_pool.proofs.Vocabulary.{◌≡◌, length, lacks_memory}
use Rattle.agent_pool.proofs.gather.lacks_memory.Given as goal

abbrev pub invariant-loop-one : goal.invariant-loop-one
invariant-loop-one l = lacks_memory l.rest ≡ lacks_memory l.worked

abbrev pub decreases-loop-one : goal.decreases-loop-one
decreases-loop-one l = length l.rest
