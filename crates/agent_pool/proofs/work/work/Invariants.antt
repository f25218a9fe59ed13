use Rattle.agent_pool.proofs.Vocabulary.{◌≡◌, view, IsSeatAt, receives_on, IsTaker, Took, IsWorkOf, RiseInPlace}
use Rattle.agent_pool.proofs.work.work.Given as goal

abbrev pub invariant-loop : goal.invariant-loop
invariant-loop g l =
    (goal.iterator-loop g).can_next l.iterator' × (goal.iterator-loop g).is_finite l.iterator'
    × IsSeatAt (receives_on l.context.receiver.now) l.ticket × IsTaker (view l.ticket) × (l.was.value ≡ l.fn.seat) × IsWorkOf l.context.jobs.now l.fn.seat l.worked
    × RiseInPlace 0 l.worked.done.items (view l.ticket).low × Took l.context.servers.now.servers l.context.jobs.now l.worked (view l.ticket).taken
