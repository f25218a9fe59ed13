use Rattle.law_run_recovers.proofs.OpenRows.{open_votes_are_rows}
use Rattle.law_run_recovers.proofs.open_votes_are_rows.Goals as goal

pub returns : goal.returns
returns c = open_votes_are_rows
