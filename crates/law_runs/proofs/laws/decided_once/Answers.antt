use Rattle.law_runs.proofs.Conclusions.{decided_once}
use Rattle.law_runs.proofs.laws.decided_once.Goals as goal

pub returns : goal.returns
returns c = decided_once
