use Rattle.agent_pool.proofs.Vocabulary.{◌↔◌, Some, length, IsOther}
use Rattle.agent_pool.proofs.ready.is_other.Given as goal

abbrev pub invariant-loop-player : goal.invariant-loop-player
invariant-loop-player l = IsOther l.rest (Some l.number) ↔ IsOther l.agents (Some l.number)

abbrev pub decreases-loop-player : goal.decreases-loop-player
decreases-loop-player l = length l.rest
