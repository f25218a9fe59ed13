use Rattle.agent_pool.proofs.Vocabulary.{◌≡◌, length, passes_for}
use Rattle.agent_pool.proofs.ready.has_pass.Given as goal

abbrev pub invariant-loop-pass : goal.invariant-loop-pass
invariant-loop-pass l = passes_for l.agent l.rest ≡ passes_for l.agent l.passes

abbrev pub decreases-loop-pass : goal.decreases-loop-pass
decreases-loop-pass l = length l.rest
