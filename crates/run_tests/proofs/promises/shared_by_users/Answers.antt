use Rattle.run_tests.proofs.promises.shared_by_users.Goals as goal

pub returns-clause-decided : goal.returns-clause-decided
returns-clause-decided c world is before later of = ((c.promised.ensures world is).1 before later of).beside_decided
