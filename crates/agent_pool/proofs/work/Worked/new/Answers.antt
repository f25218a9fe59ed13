use Rattle.agent_pool.proofs.Vocabulary.{refl}
use Rattle.agent_pool.proofs.Works.{works_first}
use Rattle.agent_pool.proofs.work.Worked.new.Goals as goal

pub returns-clause-work : goal.returns-clause-work
returns-clause-work c jobs = works_first jobs c.args.seat _ refl refl c.new.ensures.items refl c.requires
