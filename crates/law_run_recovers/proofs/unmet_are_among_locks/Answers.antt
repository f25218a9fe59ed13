use Rattle.law_run_recovers.proofs.UnmetLaws.{unmet_are_among_locks}
use Rattle.law_run_recovers.proofs.unmet_are_among_locks.Goals as goal

pub returns : goal.returns
returns c = unmet_are_among_locks
