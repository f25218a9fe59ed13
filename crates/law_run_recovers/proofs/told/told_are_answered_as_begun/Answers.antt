use Rattle.law_run_recovers.proofs.ToldLaws.{told_are_answered_as_begun}
use Rattle.law_run_recovers.proofs.told.told_are_answered_as_begun.Goals as goal

pub returns : goal.returns
returns c = told_are_answered_as_begun
