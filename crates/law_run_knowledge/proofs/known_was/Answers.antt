use Rattle.law_run_knowledge.proofs.Events.{known_was}
use Rattle.law_run_knowledge.proofs.known_was.Goals as goal

pub returns : goal.returns
returns c = known_was
