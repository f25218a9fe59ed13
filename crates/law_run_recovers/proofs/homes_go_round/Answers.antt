use Rattle.law_run_recovers.proofs.Homes.{homes_go_round}
use Rattle.law_run_recovers.proofs.homes_go_round.Goals as goal

pub returns : goal.returns
returns c = homes_go_round
