use Rattle.law_run_alone.proofs.Clear.{nothing_is_in_the_way}
use Rattle.law_run_alone.proofs.nothing_is_in_the_way.Goals as goal

pub returns : goal.returns
returns c = nothing_is_in_the_way
