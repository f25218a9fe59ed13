use Rattle.agent_pool.proofs.Vocabulary.{◌≡◌, ◌+◌, ◌≤◌, ◌++◌, length, into_iter_items, into_iter_len, AreSeated}
use Rattle.std.proofs.Common.{vec_len, vec_capacity}
use Rattle.agent_pool.proofs.passes.seats.Given as goal

abbrev pub invariant-loop-player : goal.invariant-loop-player
invariant-loop-player l =
    (goal.iterator-loop-player).can_next l.player-iterator
    × (goal.iterator-loop-player).is_finite l.player-iterator
    × (l.yielded ++ into_iter_items l.player-iterator ≡ into_iter_items l.initial.player-iterator)
    × AreSeated l.fn.passes.items l.passes.items l.yielded l.seats.items
    × (into_iter_len l.player-iterator + vec_len l.seats ≤ vec_capacity l.seats)
    × (into_iter_len l.player-iterator ≡ length (into_iter_items l.player-iterator))
