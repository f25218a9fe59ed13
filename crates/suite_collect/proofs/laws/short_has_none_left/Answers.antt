use Rattle.suite_collect.proofs.Shortness.{short_has_none_left}
use Rattle.suite_collect.proofs.laws.short_has_none_left.Goals as goal

pub returns : goal.returns
returns c = short_has_none_left
