use Rattle.agent_pool.proofs.Vocabulary.{◌≡◌, ◌+◌, ◌≤◌, ◌++◌, All, true, length, AllZip, into_iter_items, into_iter_len, view, IsSeatAt, sends_on, AllTook}
use Rattle.agent_pool.proofs.Vocabulary.{Comes}
use Rattle.std.proofs.Common.{vec_len, vec_capacity}
use Rattle.agent_pool.specs.code.Back.{IsOf}
use Rattle.agent_pool.proofs.start.join_all.Given as goal

abbrev pub invariant-loop-start : goal.invariant-loop-start
invariant-loop-start g l =
    (goal.iterator-loop-start g).can_next l.start-iterator
    × (goal.iterator-loop-start g).is_finite l.start-iterator
    × (l.yielded ++ into_iter_items l.start-iterator ≡ into_iter_items l.initial.start-iterator)
    × AllZip Comes l.yielded l.room.items
    × (into_iter_len l.start-iterator + vec_len l.room ≤ vec_capacity l.room)
    × (into_iter_len l.start-iterator ≡ length (into_iter_items l.start-iterator))
    × IsSeatAt (sends_on l.sender) l.ticket
    × ((view l.ticket).puts ≡ true)
    × ((view l.ticket).put ≡ length l.context.jobs.now)
    × ((view l.ticket).takers ≡ length (into_iter_items l.initial.start-iterator))
    × ((view l.ticket).back ≡ length l.yielded)
    × (l.has_ended ≡ true → (view l.ticket).ended ≡ true)
    × AllTook l.context.servers.now.servers l.context.jobs.now l.room.items (view l.ticket).taken
    × All (IsOf l.context.receiver.now l.context.servers.now.servers l.context.jobs.now) (into_iter_items l.start-iterator)
