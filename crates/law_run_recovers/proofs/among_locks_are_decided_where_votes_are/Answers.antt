use Rattle.law_run_recovers.proofs.AmongLaws.{among_locks_are_decided_where_votes_are}
use Rattle.law_run_recovers.proofs.among_locks_are_decided_where_votes_are.Goals as goal

pub returns : goal.returns
returns c = among_locks_are_decided_where_votes_are
