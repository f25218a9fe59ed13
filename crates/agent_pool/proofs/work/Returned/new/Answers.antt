use Rattle.agent_pool.proofs.Vocabulary.{ap, true≢false, sym, Hand}
use Rattle.agent_pool.proofs.JobsTaken.{took_none}
use Rattle.agent_pool.proofs.work.Returned.new.Goals as goal

pub returns-clause-back : goal.returns-clause-back
returns-clause-back c = λ servers jobs. record {
  takes = (ap (λ (hand : Hand). hand.puts) c.requires.ticket, ap (λ (hand : Hand). hand.takes) c.requires.ticket);
  took = took_none servers jobs _ _ c.new.ensures.none c.new.ensures.runs (ap (λ (hand : Hand). hand.taken) c.requires.ticket);
  ended = λ is. absurd (true≢false (sym is));
}
