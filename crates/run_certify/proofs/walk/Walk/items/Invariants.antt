use Rattle.run_certify.proofs.Vocabulary.{[], Goes}
use Rattle.run_certify.proofs.Going.{left_in}
use Rattle.run_certify.proofs.walk.Walk.items.Given as goal

abbrev pub invariant-loop-server : goal.invariant-loop-server
invariant-loop-server l = Goes l.fn.self [] l.self []

abbrev pub decreases-loop-server : goal.decreases-loop-server
decreases-loop-server l = left_in l.self.histories
