use Rattle.suite_collect.proofs.Collected.{current_is_a_quorum}
use Rattle.suite_collect.proofs.laws.current_is_a_quorum.Goals as goal

pub returns : goal.returns
returns c = current_is_a_quorum
