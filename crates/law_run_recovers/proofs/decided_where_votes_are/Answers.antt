use Rattle.law_run_recovers.proofs.AloneLaws.{decided_where_votes_are}
use Rattle.law_run_recovers.proofs.decided_where_votes_are.Goals as goal

pub returns : goal.returns
returns c = decided_where_votes_are
