use Rattle.rep_core.proofs.Reached.{suites_are_few}
use Rattle.rep_core.proofs.laws.suites_are_few.Goals as goal

pub returns : goal.returns
returns c = suites_are_few
