use Rattle.law_run_recovers.proofs.AloneLaws.{ends_are_by_votes}
use Rattle.law_run_recovers.proofs.ends_are_by_votes.Goals as goal

pub returns : goal.returns
returns c = ends_are_by_votes
