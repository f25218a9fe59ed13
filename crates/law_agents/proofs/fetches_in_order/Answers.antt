use Rattle.law_agents.proofs.Fetched.{fetches_in_order}
use Rattle.law_agents.proofs.fetches_in_order.Goals as goal

pub returns : goal.returns
returns c = fetches_in_order
