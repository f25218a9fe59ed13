use Rattle.agent_pool.proofs.Vocabulary.{◌≡◌, view, IsSeatAt, sends_on}
use Rattle.agent_pool.proofs.line.put.Given as goal

abbrev pub invariant-loop : goal.invariant-loop
invariant-loop g l =
    (goal.iterator-loop g).can_next l.iterator' × (goal.iterator-loop g).is_finite l.iterator'
    × IsSeatAt (sends_on l.sender) l.ticket × (view l.ticket ≡ view l.fn.ticket)
