use Rattle.server_lock.proofs.Vocabulary.{◌≡◌, ◌+◌, ◌≤◌, vec_len, vec_capacity, into_iter_len}
use Rattle.server_lock.proofs.servers.taken_out.Given as goal

abbrev pub invariant-loop-lock : goal.invariant-loop-lock
invariant-loop-lock l =
    (goal.iterator-loop-lock).can_next l.lock-iterator
    × (goal.iterator-loop-lock).is_finite l.lock-iterator
    × (into_iter_len l.lock-iterator + vec_len l.held ≡ vec_len l.fn.locks)
    × (vec_len l.fn.locks ≤ vec_capacity l.held)
