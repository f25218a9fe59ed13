use Rattle.law_run_recovers.proofs.AmongLaws.{among_locks_end_by_votes}
use Rattle.law_run_recovers.proofs.among_locks_end_by_votes.Goals as goal

pub returns : goal.returns
returns c = among_locks_end_by_votes
