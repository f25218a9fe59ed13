use Rattle.law_run_machine.proofs.Kept.{sides_are_kept}
use Rattle.law_run_machine.proofs.sides_are_kept.Goals as goal

pub returns : goal.returns
returns c = sides_are_kept
