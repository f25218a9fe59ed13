use Rattle.rep_core.proofs.Vocabulary.{◌≡◌, ℕ, ◌<◌, ◌-◌, ◌^◌, nat_cmp, get}
use Rattle.rep_core.proofs.sameness.same_verdicts.Given as goal

abbrev pub invariant-loop-next : goal.invariant-loop-next
invariant-loop-next l = (q : ℕ) → q < l.from → get nat_cmp l.own.pairs q ≡ get nat_cmp l.theirs.pairs q

abbrev pub decreases-loop-next : goal.decreases-loop-next
decreases-loop-next l = 2 ^ 64 - l.from
