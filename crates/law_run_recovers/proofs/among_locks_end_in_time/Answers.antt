use Rattle.law_run_recovers.proofs.AmongTime.{among_locks_end_in_time}
use Rattle.law_run_recovers.proofs.among_locks_end_in_time.Goals as goal

pub returns : goal.returns
returns c = among_locks_end_in_time
