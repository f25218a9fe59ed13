use Rattle.run_certify.proofs.Vocabulary.{length, transcript_of}
use Rattle.run_certify.proofs.Going.{IsAsFar}
use Rattle.run_certify.proofs.walk.Walk.rest_of.Given as goal

abbrev pub invariant-loop-entry : goal.invariant-loop-entry
invariant-loop-entry l = IsAsFar l.fn.self l.self l.agent

abbrev pub decreases-loop-entry : goal.decreases-loop-entry
decreases-loop-entry l = length (transcript_of l.self.unused l.agent)
