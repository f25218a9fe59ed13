use Rattle.agent_pool.proofs.Vocabulary.{◌↔◌, length, AreReady}
use Rattle.agent_pool.proofs.ready.are_ready.Given as goal

abbrev pub invariant-loop-player : goal.invariant-loop-player
invariant-loop-player l = AreReady l.passes l.rest ↔ AreReady l.passes l.agents

abbrev pub decreases-loop-player : goal.decreases-loop-player
decreases-loop-player l = length l.rest
