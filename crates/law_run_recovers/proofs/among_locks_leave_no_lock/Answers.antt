use Rattle.law_run_recovers.proofs.AmongLeft.{among_locks_leave_no_lock}
use Rattle.law_run_recovers.proofs.among_locks_leave_no_lock.Goals as goal

pub returns : goal.returns
returns c = among_locks_leave_no_lock
