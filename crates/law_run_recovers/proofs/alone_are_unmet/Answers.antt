use Rattle.law_run_recovers.proofs.Open.{alone_is_unmet}
use Rattle.law_run_recovers.proofs.alone_are_unmet.Goals as goal

pub returns : goal.returns
returns c = alone_is_unmet
