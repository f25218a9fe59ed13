use Rattle.run_tests.proofs.promises.one_user_of_a_run_is_decided.Goals as goal
use Rattle.law_headline.specs.Worked.{with_caches}
use Rattle.law_run_recovers.specs.BesideWorked.{two_made}
use Rattle.law_run_recovers.specs.MeetsWorked.{two_meet}

pub returns : goal.returns
returns c =
    let run = c.some_runs_meet.ensures in
    (run, λ job outcome ends other_ends. c.one_that_meets_is_decided.ensures with_caches two_made two_meet run.one run.other run.meets job outcome ends other_ends)
