use Rattle.law_run_recovers.proofs.Free.{no_lock_is_left}
use Rattle.law_run_recovers.proofs.no_lock_is_left.Goals as goal

pub returns : goal.returns
returns c = no_lock_is_left
