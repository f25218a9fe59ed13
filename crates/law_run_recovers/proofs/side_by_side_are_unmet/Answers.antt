use Rattle.law_run_recovers.proofs.BesideLaws.{side_by_side_are_unmet}
use Rattle.law_run_recovers.proofs.side_by_side_are_unmet.Goals as goal

pub returns : goal.returns
returns c = side_by_side_are_unmet
