use Rattle.law_run_recovers.proofs.ToldLaws.{told_gather_their_asks}
use Rattle.law_run_recovers.proofs.told.told_gather_their_asks.Goals as goal

pub returns : goal.returns
returns c = told_gather_their_asks
