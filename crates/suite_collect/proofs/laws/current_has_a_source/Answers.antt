use Rattle.suite_collect.proofs.Sources.{has_source}
use Rattle.suite_collect.proofs.laws.current_has_a_source.Goals as goal

pub returns : goal.returns
returns c = has_source
