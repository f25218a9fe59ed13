use Rattle.law_run_recovers.proofs.BesideLaws.{side_by_side_are_decided}
use Rattle.law_run_recovers.proofs.side_by_side_are_decided.Goals as goal

pub returns : goal.returns
returns c = side_by_side_are_decided
