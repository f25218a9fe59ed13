use Rattle.run_tests.proofs.promises.users_of_a_run_are_decided.Goals as goal
use Rattle.law_headline.specs.Worked.{with_caches}
use Rattle.law_run_recovers.specs.BesideWorked.{two_made, two_write}

pub returns : goal.returns
returns c one job ends = c.side_by_side_are_decided.ensures with_caches two_made two_write c.some_runs_go_side_by_side.ensures.goes one job ends
