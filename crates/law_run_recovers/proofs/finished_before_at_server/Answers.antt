use Rattle.law_run_recovers.proofs.Histories.{finished_before_at_server}
use Rattle.law_run_recovers.proofs.finished_before_at_server.Goals as goal

pub returns : goal.returns
returns c = finished_before_at_server
