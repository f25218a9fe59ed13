use Rattle.suite_session.proofs.Vocabulary.{◌≡◌, ◌++◌}
use Rattle.suite_session.specs.HeldLocks.{locks_text}
use Rattle.suite_session.proofs.held_locks.push_locks.Given as goal

abbrev pub invariant-loop-number : goal.invariant-loop-number
invariant-loop-number l = l.text.items ≡ l.fn.text.items ++ locks_text l.service.settings l.service.world.world l.number
