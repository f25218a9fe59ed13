use Rattle.law_run_knowledge.proofs.Events.{knowledge_was}
use Rattle.law_run_knowledge.proofs.knowledge_was.Goals as goal

pub returns : goal.returns
returns c = knowledge_was
