use Rattle.law_run_recovers.proofs.AmongDecided.{among_locks_had_votes_open}
use Rattle.law_run_recovers.proofs.among_locks_had_votes_open.Goals as goal

pub returns : goal.returns
returns c = among_locks_had_votes_open
