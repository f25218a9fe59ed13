use Rattle.agent_pool.proofs.Vocabulary.{sym, subst, Pass, IsSeatAt, receives_on, Hand, PoolItem}
use Rattle.agent_pool.proofs.start.begin_thread.Goals as goal

pub returns-in_default-clause-start : goal.returns-in_default-clause-start
returns-in_default-clause-start g c = c.new.ensures.work c.args.context.now.jobs.now

pub returns-in_default-clause-of : goal.returns-in_default-clause-of
returns-in_default-clause-of g c = (
  subst (λ (ticket : Pass PoolItem Hand). IsSeatAt (receives_on c.args.context.now.receiver.now) ticket) (sym c.new.ensures.ticket) c.requires.ticket.0,
  c.new.ensures.back c.args.context.now.servers.now.servers c.args.context.now.jobs.now,
)
