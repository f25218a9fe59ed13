use Rattle.law_agents.proofs.RunBounds.{runs_end_in_time}
use Rattle.law_agents.proofs.runs_end_in_time.Goals as goal

pub returns : goal.returns
returns c = runs_end_in_time
