use Rattle.law_agents.proofs.Same.{same_told_same_asked}
use Rattle.law_agents.proofs.same_told_same_asked.Goals as goal

pub returns : goal.returns
returns c = same_told_same_asked
