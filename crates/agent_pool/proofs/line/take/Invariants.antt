use Rattle.agent_pool.proofs.Vocabulary.{◌≡◌, view, IsSeatAt, receives_on}
use Rattle.agent_pool.proofs.line.take.Given as goal

abbrev pub invariant-loop : goal.invariant-loop
invariant-loop g l =
    (goal.iterator-loop g).can_next l.iterator' × (goal.iterator-loop g).is_finite l.iterator'
    × IsSeatAt (receives_on l.receiver) l.ticket × (view l.ticket ≡ view l.fn.ticket)
