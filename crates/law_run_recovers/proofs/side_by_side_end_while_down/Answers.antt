use Rattle.law_run_recovers.proofs.BesideLaws.{side_by_side_end_while_down}
use Rattle.law_run_recovers.proofs.side_by_side_end_while_down.Goals as goal

pub returns : goal.returns
returns c = side_by_side_end_while_down
