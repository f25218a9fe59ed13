use Rattle.agent_pool.proofs.Vocabulary.{◌≡◌, ◌≤◌, [], drop, passes_for}
use Rattle.std.specs.Vec.{vec_len}
use Rattle.agent_pool.proofs.passes.take_pass.Given as goal

abbrev pub invariant-loop-at : goal.invariant-loop-at
invariant-loop-at l = (l.passes ≡ l.fn.passes) × (l.at ≤ vec_len l.passes) × (passes_for l.agent (drop l.at l.passes.items) ≡ [])

abbrev pub decreases-loop-at : goal.decreases-loop-at
decreases-loop-at l = l.at
