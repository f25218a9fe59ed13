use Rattle.agent_pool.proofs.Vocabulary.{rules, ℕ, List, sym, subst, arith, Pass, view, IsSeatAt, receives_on, Hand, PoolItem, JobDone, Took, RiseInPlace}
use Rattle.agent_pool.proofs.Lines.{behind_job, end_taken}
use Rattle.agent_pool.proofs.Works.{place_longer}
use Rattle.agent_pool.proofs.work.work.Goals as goal

pub loop-init : goal.loop-init
loop-init g c =
    let made = c.new-worked.ensures in
    let back = made.back c.args.context.now.servers.now.servers c.args.context.now.jobs.now in (
      tt,
      tt,
      subst (λ (ticket : Pass PoolItem Hand). IsSeatAt (receives_on c.args.context.now.receiver.now) ticket) (sym made.ticket) c.requires.ticket.0,
      back.takes,
      search rules,
      made.work c.args.context.now.jobs.now,
      subst (λ (ds : List JobDone). RiseInPlace 0 ds (view c.new-worked.result.ticket).low) (sym made.none) (omega arith),
      back.took,
    )

pub carry_out-worked-requires-clause-behind : goal.carry_out-worked-requires-clause-behind
carry_out-worked-requires-clause-behind g c =
    place_longer 0 (view c.loop.ticket).low c.in-Job.place c.loop.worked.done.items c.loop.invariant.6
    (behind_job (view c.loop.ticket) _ _ c.in-Job.place c.take.ensures.taken (search rules))

pub returns-in-End-clause-back : goal.returns-in-End-clause-back
returns-in-End-clause-back g c =
    let over = end_taken (view c.loop.ticket) _ (view c.take.new.ticket) c.take.ensures.taken (search rules) in
    record {
      takes = c.take.ensures.seat.1;
      took = subst (λ (taken : List ℕ). Took c.args.context.now.servers.now.servers c.args.context.now.jobs.now c.loop.worked taken) (sym over.0) c.loop.invariant.7;
      ended = λ is. over.1;
    }
