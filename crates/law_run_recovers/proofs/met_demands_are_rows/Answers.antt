use Rattle.law_run_recovers.proofs.Rows.{met_demands_are_rows}
use Rattle.law_run_recovers.proofs.met_demands_are_rows.Goals as goal

pub returns : goal.returns
returns c = met_demands_are_rows
