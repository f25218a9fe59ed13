use Rattle.law_headline.proofs.Conclusions.{knowledge_was}
use Rattle.law_headline.proofs.knowledge_was.Goals as goal

pub returns : goal.returns
returns c = knowledge_was
