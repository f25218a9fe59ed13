use Rattle.agent_pool.proofs.Vocabulary.{List, ℕ, subst, NamedJob, Start, IsBack}
use Rattle.agent_pool.specs.code.Back.{IsOf}
use Rattle.agent_pool.proofs.start.join_one.Goals as goal

pub returns-in-Started-clause-back : goal.returns-in-Started-clause-back
returns-in-Started-clause-back g c of =
    let servers = c.args._context.now.servers.now.servers in
    let jobs = c.args._context.now.jobs.now in
    let kept = c.join.ensures in
    let here = subst (λ (start : Start). IsOf c.args._context.now.receiver.now servers jobs start) c.in-Started.is of in (
      here.0 c.join.result.ticket kept.1,
      subst (λ (many : ℕ). IsBack many jobs c.join.result) here.1
          (subst (λ (js : List NamedJob). IsBack c.in-Started.handle.promise.servers.now.servers js c.join.result) here.2 kept.2),
    )
