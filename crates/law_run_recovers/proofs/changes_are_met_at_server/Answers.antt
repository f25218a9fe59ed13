use Rattle.law_run_recovers.proofs.Histories.{changes_are_met_at_server}
use Rattle.law_run_recovers.proofs.changes_are_met_at_server.Goals as goal

pub returns : goal.returns
returns c = changes_are_met_at_server
