use Rattle.law_agents.proofs.Sites.{agents_stay_so, runs_keep_to}
use Rattle.law_agents.proofs.runs_keep_to_sites.Goals as goal

pub returns : goal.returns
returns c = record {
  agents = agents_stay_so;
  runs = runs_keep_to;
  senseless = λ given events event none. c.nothing_comes.ensures _ _ event (runs_keep_to given events) none;
}
