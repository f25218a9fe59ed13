use Rattle.law_run_recovers.proofs.NearRows.{near_votes_are_rows}
use Rattle.law_run_recovers.proofs.near_votes_are_rows.Goals as goal

pub returns : goal.returns
returns c = near_votes_are_rows
