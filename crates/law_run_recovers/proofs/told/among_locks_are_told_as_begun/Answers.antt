use Rattle.law_run_recovers.proofs.ToldLaws.{among_locks_are_told_as_begun}
use Rattle.law_run_recovers.proofs.told.among_locks_are_told_as_begun.Goals as goal

pub returns : goal.returns
returns c = among_locks_are_told_as_begun
