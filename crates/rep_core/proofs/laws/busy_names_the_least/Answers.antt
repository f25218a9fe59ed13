use Rattle.rep_core.proofs.Reached.{busy_names_the_least}
use Rattle.rep_core.proofs.laws.busy_names_the_least.Goals as goal

pub returns : goal.returns
returns c = busy_names_the_least
