use Rattle.law_agents.proofs.Quorate.{prepares_on_quorums}
use Rattle.law_agents.proofs.prepares_on_quorums.Goals as goal

pub returns : goal.returns
returns c = prepares_on_quorums
