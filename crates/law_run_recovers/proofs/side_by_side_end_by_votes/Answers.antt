use Rattle.law_run_recovers.proofs.BesideLaws.{side_by_side_end_by_votes}
use Rattle.law_run_recovers.proofs.side_by_side_end_by_votes.Goals as goal

pub returns : goal.returns
returns c = side_by_side_end_by_votes
