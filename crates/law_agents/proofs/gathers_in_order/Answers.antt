use Rattle.law_agents.proofs.Gathered.{gathers_in_order}
use Rattle.law_agents.proofs.gathers_in_order.Goals as goal

pub returns : goal.returns
returns c = gathers_in_order
