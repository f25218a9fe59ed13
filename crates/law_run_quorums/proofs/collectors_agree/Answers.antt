use Rattle.law_run_quorums.proofs.Runs.{collectors_agree}
use Rattle.law_run_quorums.proofs.collectors_agree.Goals as goal

pub returns : goal.returns
returns c = collectors_agree
