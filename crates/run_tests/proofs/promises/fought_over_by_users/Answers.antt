use Rattle.run_tests.proofs.promises.fought_over_by_users.Goals as goal

pub returns : goal.returns
returns c world is before later of = ((c.promised.ensures world is).1 before later of).one_that_meets
