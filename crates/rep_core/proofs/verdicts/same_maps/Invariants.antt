use Rattle.rep_core.proofs.Vocabulary.{◌≡◌, ◌<◌, ℕ, pairs_at}
use Rattle.rep_core.proofs.verdicts.same_maps.Given as goal

abbrev pub invariant-loop-agent : goal.invariant-loop-agent
invariant-loop-agent l = (k : ℕ) → k < l.agent → pairs_at l.own k ≡ pairs_at l.theirs k
