use Rattle.agent_pool.proofs.Vocabulary.{◌≡◌, ◌+◌, ◌≤◌, ◌++◌, All, length, AllZip, into_iter_items, into_iter_len, view, IsSeatAt, sends_on, feeder, AreIdle}
use Rattle.agent_pool.proofs.Vocabulary.{IsStart}
use Rattle.std.proofs.Common.{vec_len, vec_capacity}
use Rattle.agent_pool.specs.code.Back.{IsOf}
use Rattle.agent_pool.proofs.pool.in_scope.Given as goal

abbrev pub invariant-loop-seat : goal.invariant-loop-seat
invariant-loop-seat g l =
    (goal.iterator-loop-seat g).can_next l.seat-iterator
    × (goal.iterator-loop-seat g).is_finite l.seat-iterator
    × (l.yielded ++ into_iter_items l.seat-iterator ≡ into_iter_items l.initial.seat-iterator)
    × AllZip (IsStart l.context.jobs.now) l.yielded l.starts.items
    × (into_iter_len l.seat-iterator + vec_len l.starts ≤ vec_capacity l.starts)
    × (into_iter_len l.seat-iterator ≡ length (into_iter_items l.seat-iterator))
    × (l.started ≤ vec_len l.starts)
    × IsSeatAt (sends_on l.sender) l.ticket
    × (view l.ticket ≡ feeder 0 0 (vec_len l.starts))
    × (vec_len l.starts ≡ length l.yielded)
    × AreIdle (into_iter_items l.seat-iterator)
    × All (IsOf l.context.receiver.now l.context.servers.now.servers l.context.jobs.now) l.starts.items
