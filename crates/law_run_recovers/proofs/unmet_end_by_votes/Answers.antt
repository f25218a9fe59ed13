use Rattle.law_run_recovers.proofs.UnmetLaws.{unmet_end_by_votes}
use Rattle.law_run_recovers.proofs.unmet_end_by_votes.Goals as goal

pub returns : goal.returns
returns c = unmet_end_by_votes
