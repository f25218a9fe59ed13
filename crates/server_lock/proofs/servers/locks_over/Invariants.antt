use Rattle.server_lock.proofs.Vocabulary.{◌≡◌, ◌+◌, ◌≤◌, vec_len, vec_capacity, into_iter_len}
use Rattle.server_lock.proofs.servers.locks_over.Given as goal

abbrev pub invariant-loop-locked : goal.invariant-loop-locked
invariant-loop-locked l =
    (goal.iterator-loop-locked).can_next l.locked-iterator
    × (goal.iterator-loop-locked).is_finite l.locked-iterator
    × (into_iter_len l.locked-iterator + vec_len l.locks ≡ vec_len l.fn.servers)
    × (vec_len l.fn.servers ≤ vec_capacity l.locks)
