use Rattle.law_run_recovers.proofs.ToldLaws.{told_are_decided_where_votes_are}
use Rattle.law_run_recovers.proofs.told.told_are_decided_where_votes_are.Goals as goal

pub returns : goal.returns
returns c = told_are_decided_where_votes_are
