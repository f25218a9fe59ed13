use Rattle.law_agents.proofs.Starts.{starts_are_asked}
use Rattle.law_agents.proofs.starts_are_asked.Goals as goal

pub returns : goal.returns
returns c = starts_are_asked
