use Rattle.law_headline.proofs.Worked.{some_run_moves_votes}
use Rattle.law_headline.proofs.witnesses.some_run_moves_votes.Goals as goal

pub returns : goal.returns
returns c = some_run_moves_votes
