use Rattle.agent_pool.proofs.Vocabulary.{sym, subst, Pass, IsSeatAt, receives_on, Hand, PoolItem}
use Rattle.agent_pool.proofs.start.fn.begin_thread.spawn_with.Goals as goal

pub returns-then-is_err : goal.returns-then-is_err
returns-then-is_err g c = (
  c.new.ensures.work c.captures.jobs.now,
  subst (λ (ticket : Pass PoolItem Hand). IsSeatAt (receives_on c.captures.receiver.now) ticket) (sym c.new.ensures.ticket) c.requires.0,
  c.new.ensures.back c.captures.servers.now.servers c.captures.jobs.now,
)
