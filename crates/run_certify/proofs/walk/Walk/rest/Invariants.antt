use Rattle.run_certify.proofs.Going.{IsAsFar}
use Rattle.run_certify.proofs.walk.Walk.rest.Given as goal

abbrev pub invariant-loop-agent : goal.invariant-loop-agent
invariant-loop-agent l = IsAsFar l.fn.self l.self l.agent
