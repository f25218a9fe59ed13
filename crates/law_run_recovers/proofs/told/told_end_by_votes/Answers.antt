use Rattle.law_run_recovers.proofs.ToldLaws.{told_end_by_votes}
use Rattle.law_run_recovers.proofs.told.told_end_by_votes.Goals as goal

pub returns : goal.returns
returns c = told_end_by_votes
