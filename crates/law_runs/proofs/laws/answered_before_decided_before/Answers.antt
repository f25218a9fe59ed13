use Rattle.law_runs.proofs.Conclusions.{answered_before}
use Rattle.law_runs.proofs.laws.answered_before_decided_before.Goals as goal

pub returns : goal.returns
returns c = answered_before
