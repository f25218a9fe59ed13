use Rattle.suite_session.proofs.Vocabulary.{◌≡◌, ◌++◌, drop, flat_map, lock_line}
use Rattle.suite_session.proofs.held_locks.push_each.Given as goal

abbrev pub invariant-loop-lock : goal.invariant-loop-lock
invariant-loop-lock l =
    l.text.items ++ flat_map (lock_line l.service.settings l.service.world.world l.number) (drop l.lock-index l.locks)
    ≡ l.fn.text.items ++ flat_map (lock_line l.service.settings l.service.world.world l.number) l.locks
