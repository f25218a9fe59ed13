use Rattle.suite_prefix.proofs.TestsExact.{tests_are_exact}
use Rattle.suite_prefix.proofs.validity.tests_are_exact.Goals as goal

pub returns : goal.returns
returns c = tests_are_exact
