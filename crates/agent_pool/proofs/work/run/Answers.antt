use Rattle.agent_pool.proofs.Vocabulary.{rules}
use Rattle.agent_pool.proofs.Leaving.{did_job, lacked_job, no_job}
use Rattle.agent_pool.proofs.work.run.Goals as goal

pub returns-in-Ok-false-clause-did : goal.returns-in-Ok-false-clause-did
returns-in-Ok-false-clause-did g c = no_job _ _ _ _ _ (search rules) (search rules)

pub returns-in-Err-clause-did : goal.returns-in-Err-clause-did
returns-in-Err-clause-did g c = lacked_job _ _ _ _ _ (search rules)

pub returns-clause-did : goal.returns-clause-did
returns-clause-did g c = did_job _ _ _ c.begin.new.self _ _ _ _ c.in-Ok-true.ensures.fixed c.in-Ok-true.ensures.number c.in-Ok-true.ensures.known (search rules) (search rules) c.in-Ok-true.ensures.agent c.go_on.ensures.did
