use Rattle.suite_collect.proofs.Staying.{prefix_and_version_stay}
use Rattle.suite_collect.proofs.laws.prefix_and_version_stay.Goals as goal

pub returns : goal.returns
returns c = prefix_and_version_stay
