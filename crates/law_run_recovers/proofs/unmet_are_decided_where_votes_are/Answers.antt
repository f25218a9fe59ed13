use Rattle.law_run_recovers.proofs.UnmetLaws.{unmet_are_decided_where_votes_are}
use Rattle.law_run_recovers.proofs.unmet_are_decided_where_votes_are.Goals as goal

pub returns : goal.returns
returns c = unmet_are_decided_where_votes_are
