use Rattle.law_agents.proofs.Endings.{ends_as_told}
use Rattle.law_agents.proofs.ends_as_told.Goals as goal

pub returns : goal.returns
returns c = ends_as_told
