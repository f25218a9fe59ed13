use Rattle.suite_collect.proofs.Collected.{widened_is_a_write_quorum}
use Rattle.suite_collect.proofs.laws.widened_is_a_write_quorum.Goals as goal

pub returns : goal.returns
returns c = widened_is_a_write_quorum
