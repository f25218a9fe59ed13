use Rattle.suite_collect.proofs.Fewness.{asks_are_few}
use Rattle.suite_collect.proofs.laws.asks_are_few.Goals as goal

pub returns : goal.returns
returns c = asks_are_few
