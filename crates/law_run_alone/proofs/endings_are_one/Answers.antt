use Rattle.law_run_alone.proofs.Same.{endings_are_one}
use Rattle.law_run_alone.proofs.endings_are_one.Goals as goal

pub returns : goal.returns
returns c = endings_are_one
