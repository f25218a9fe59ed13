use Rattle.suite_collect.proofs.Collected.{nobody_is_asked_twice}
use Rattle.suite_collect.proofs.laws.nobody_is_asked_twice.Goals as goal

pub returns : goal.returns
returns c = nobody_is_asked_twice
