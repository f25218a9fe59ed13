use Rattle.law_run_recovers.proofs.BesideLaws.{side_by_side_are_told_freely}
use Rattle.law_run_recovers.proofs.side_by_side_are_told_freely.Goals as goal

pub returns : goal.returns
returns c = side_by_side_are_told_freely
