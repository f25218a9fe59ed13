use Rattle.law_run_recovers.proofs.AmongDecided.{among_locks_are_answered_as_begun}
use Rattle.law_run_recovers.proofs.among_locks_are_answered_as_begun.Goals as goal

pub returns : goal.returns
returns c = among_locks_are_answered_as_begun
