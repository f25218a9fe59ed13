use Rattle.run_core.proofs.Senseless.{nothing_comes}
use Rattle.run_core.proofs.laws.nothing_comes.Goals as goal

pub returns : goal.returns
returns c = nothing_comes
