use Rattle.law_runs.proofs.Begun.{agents_ask_for_themselves}
use Rattle.law_runs.proofs.laws.agents_ask_for_themselves.Goals as goal

pub returns : goal.returns
returns c = agents_ask_for_themselves
