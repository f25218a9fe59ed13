use Rattle.law_agents.proofs.Ends.{jobs_end}
use Rattle.law_agents.proofs.jobs_end.Goals as goal

pub returns : goal.returns
returns c = jobs_end
