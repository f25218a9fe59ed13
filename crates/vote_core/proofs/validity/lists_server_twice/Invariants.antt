use Rattle.vote_core.proofs.Vocabulary.{◌≡◌, ◌||◌, drop, contains, lists_twice}
use Rattle.vote_core.proofs.Doubles.{lists_one}
use Rattle.vote_core.proofs.validity.lists_server_twice.Given as goal

abbrev pub invariant-loop-server : goal.invariant-loop-server
invariant-loop-server l = (lists_one (contains l.seen) (drop l.server-index l.reps) || lists_twice (drop l.server-index l.reps)) ≡ lists_twice l.reps
