use Rattle.agent_pool.proofs.Vocabulary.{◌≡◌, view, IsSeatAt, sends_on}
use Rattle.agent_pool.proofs.line.feed.Given as goal

abbrev pub invariant-loop-place : goal.invariant-loop-place
invariant-loop-place g l = IsSeatAt (sends_on l.sender) l.ticket × (view l.ticket ≡ record (view l.fn.ticket) { put = l.place })

abbrev pub invariant-loop : goal.invariant-loop
invariant-loop g l = IsSeatAt (sends_on l.sender) l.ticket × (view l.ticket ≡ record (view l.fn.ticket) { put = l.jobs; ends = l.counter })
