use Rattle.law_run_recovers.proofs.Blocking.{blocked_by_doubts}
use Rattle.law_run_recovers.proofs.blocked_by_doubts.Goals as goal

pub returns : goal.returns
returns c = blocked_by_doubts
