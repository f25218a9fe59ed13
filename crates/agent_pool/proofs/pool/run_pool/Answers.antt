use Rattle.agent_pool.proofs.Vocabulary.{rules, ◌+◌, ◌≤◌, inr, ℕ, List, length, sym, subst, arith, Held, HasRoom, AreSeated, IsSeated, IsWorkOf}
use Rattle.std.specs.Vec.{vec_len, vec_capacity}
use Rattle.agent_pool.proofs.Filling.{as_many, seats_idle, still_distinct}
use Rattle.agent_pool.proofs.Lines.{begins}
use Rattle.agent_pool.proofs.Pooling.{pool_is}
use Rattle.agent_pool.proofs.Seen.{handed_back, lacks_only}
use Rattle.agent_pool.proofs.JobsTaken.{fault_in, has_reason}
use Rattle.agent_pool.proofs.pool.run_pool.Goals as goal

pub bounded_with-requires-clause-rule : goal.bounded_with-requires-clause-rule
bounded_with-requires-clause-rule g c = begins

pub bounded_with-requires-clause-cap : goal.bounded_with-requires-clause-cap
bounded_with-requires-clause-cap g c =
    let many = as_many (IsSeated _ _) c.args.agents.items c.in_ok-seats.seats.items c.in_ok-seats.ensures.each in
    let some = c.requires.some in
    let a = c.args.agents.ok.0 in
    let b = c.in_ok-seats.seats.ok.0 in
    let long = c.len-count.ensures in
    omega arith

pub work_in_threads-requires-clause-idle : goal.work_in_threads-requires-clause-idle
work_in_threads-requires-clause-idle g c κs within = seats_idle _ _ c.args.agents.items c.in_ok-seats.seats.items c.in_ok-seats.ensures.each c.requires.ready.idle

pub gather-requires-clause-worked : goal.gather-requires-clause-worked
gather-requires-clause-worked g c = (c.in_ok-seats.seats.items, c.in_ok-worked.ensures.work)

pub gather-requires-clause-distinct : goal.gather-requires-clause-distinct
gather-requires-clause-distinct g c = still_distinct c.args.jobs.now _ _ c.args.agents.items c.in_ok-seats.seats.items c.in_ok-worked.worked.items c.in_ok-seats.ensures.each c.in_ok-worked.ensures.work c.requires.ready.distinct

pub gather-requires-clause-room : goal.gather-requires-clause-room
gather-requires-clause-room g c =
    let many = as_many (IsSeated _ _) c.args.agents.items c.in_ok-seats.seats.items c.in_ok-seats.ensures.each in
    let more = as_many (IsWorkOf c.args.jobs.now) c.in_ok-seats.seats.items c.in_ok-worked.worked.items c.in_ok-worked.ensures.work in
    let a = c.args.agents.ok.0 in
    let b = c.in_ok-worked.worked.ok.0 in
    subst (λ (n : ℕ). HasRoom (length c.args.jobs.now) n c.in_ok-room.room) (omega arith) c.in_ok-room.ensures

pub gather-requires-clause-passes : goal.gather-requires-clause-passes
gather-requires-clause-passes g c =
    let more = as_many (IsWorkOf c.args.jobs.now) c.in_ok-seats.seats.items c.in_ok-worked.worked.items c.in_ok-worked.ensures.work in
    let a = c.in_ok-seats.seats.ok.0 in
    let b = c.in_ok-worked.worked.ok.0 in
    let room : vec_len c.reserve.new.self + vec_len c.in_ok-seats.seats ≤ vec_capacity c.reserve.new.self = search rules in
    omega arith

pub returns-clause-pool : goal.returns-clause-pool
returns-clause-pool g c =
    pool_is c.args.jobs.now c.args.agents.items c.args.passes.items c.reserve.new.self.items c.in_ok-seats.seats.items c.in_ok-worked.worked.items c.gather.result c.requires.ready.distinct
    (subst (λ (left : List Held). AreSeated c.args.passes.items left c.args.agents.items c.in_ok-seats.seats.items) (sym c.reserve.ensures.items) c.in_ok-seats.ensures) c.in_ok-worked.ensures.work c.gather.ensures.pool

pub returns-clause-gathers : goal.returns-clause-gathers
returns-clause-gathers g c =
    inr (record {
      worked = c.in_ok-worked.worked.items;
      each = handed_back c.args.jobs.now c.args.passes.items _ c.args.agents.items c.in_ok-seats.seats.items c.in_ok-worked.worked.items c.in_ok-seats.ensures.each c.in_ok-worked.ensures.work;
      taken = c.in_ok-worked.ensures.taken;
      gathers = c.gather.ensures.gathers;
      reason = has_reason c.args.servers.now.servers c.args.jobs.now c.in_ok-worked.worked.items c.gather.result c.in_ok-worked.ensures.taken c.gather.ensures.gathers;
    })

pub returns-clause-fault : goal.returns-clause-fault
returns-clause-fault g c = fault_in c.args.servers.now.servers c.args.jobs.now c.in_ok-seats.seats.items c.in_ok-worked.worked.items c.gather.result c.in_ok-worked.ensures.work c.in_ok-worked.ensures.taken c.gather.ensures.gathers

pub returns-in_err-room-clause-gathers : goal.returns-in_err-room-clause-gathers
returns-in_err-room-clause-gathers g c = lacks_only _ c.from_residual.ensures.1

pub returns-in_err-seats-clause-gathers : goal.returns-in_err-seats-clause-gathers
returns-in_err-seats-clause-gathers g c = lacks_only _ c.from_residual-in_err-seats.ensures.1

pub returns-in_err-reserve-clause-gathers : goal.returns-in_err-reserve-clause-gathers
returns-in_err-reserve-clause-gathers g c = lacks_only _ c.from_residual-in_err-reserve.ensures.1

pub returns-in_err-sender-clause-gathers : goal.returns-in_err-sender-clause-gathers
returns-in_err-sender-clause-gathers g c = lacks_only _ c.from_residual-in_err-sender.ensures.1

pub returns-in_err-worked-clause-gathers : goal.returns-in_err-worked-clause-gathers
returns-in_err-worked-clause-gathers g c = lacks_only _ c.from_residual-in_err-worked.ensures.1
