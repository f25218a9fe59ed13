use Rattle.law_run_recovers.proofs.HadVotes.{decided_had_votes_up}
use Rattle.law_run_recovers.proofs.decided_had_votes_up.Goals as goal

pub returns : goal.returns
returns c = decided_had_votes_up
