use Rattle.law_run_recovers.proofs.ToldLaws.{told_had_votes_open}
use Rattle.law_run_recovers.proofs.told.told_had_votes_open.Goals as goal

pub returns : goal.returns
returns c = told_had_votes_open
