use Rattle.run_core.proofs.Vocabulary.{refl, vec_len, slice_get_read, IfErr-weaker, IfOk-weaker, by_request, world_of}
use Rattle.run_core.proofs.Moving.{comes_there, comes_to_nothing, ask_nothing, ask_nowhere, asks_nobody, asks_somebody, of_exchange}
use Rattle.run_core.proofs.Operating.{none_there}
use Rattle.run_core.proofs.Wanting.{held, steps_there, asking_wants, exchange_wants, or_later}
use Rattle.run_core.proofs.moves.ask.Goals as goal

pub returns-in_default-2-clause-ok : goal.returns-in_default-2-clause-ok
returns-in_default-2-clause-ok c =
    let item = c.in-Some.ensures.item in
    let found = slice_get_read _ _ _ _ refl item.3.0 item.1 in
    let there = rw c.from.ensures at found in
    let next = asks_nobody c.in_ok-server.field-0 c.next.new.request _ (rw c.agent.ensures at c.in_ok-server.ensures.ok) c.in_default-2.is in
    λ fixed all. rw c.from.ensures
    (comes_to_nothing _ _ _ c.args.ended.now (ask_nothing fixed c.args.servers.now.items c.args.seats.now.items c.args.number c.in-Some.seat.now all there next))

pub returns-in_default-get_mut-clause-ok : goal.returns-in_default-get_mut-clause-ok
returns-in_default-get_mut-clause-ok c =
    let item = c.in-Some.ensures.item in
    let found = slice_get_read _ _ _ _ refl item.3.0 item.1 in
    let there = rw c.from.ensures at found in
    let next = asks_somebody c.in_ok-server.field-0 c.next.new.request _ c.in-Some-2.server (rw c.agent.ensures at c.in_ok-server.ensures.ok) c.in-Some-2.is in
    let left = c.in_default-get_mut.ensures in
    let none = none_there c.args.servers.now.items (vec_len c.args.servers.now) c.from-2.result c.args.servers.now.ok.0 left.variant.1 in
    let nowhere = rw c.from-2.ensures at none in
    λ fixed all. rw c.from.ensures
    (comes_to_nothing _ _ _ c.args.ended.now
    (ask_nowhere fixed c.args.servers.now.items c.args.seats.now.items c.args.number c.in-Some.seat.now c.in-Some-2.server c.next.new.request all there next nowhere))

pub exchange-requires-clause-asks : goal.exchange-requires-clause-asks
exchange-requires-clause-asks c = asks_somebody c.in_ok-server.field-0 c.next.new.request _ c.in-Some-2.server (rw c.agent.ensures at c.in_ok-server.ensures.ok) c.in-Some-2.is

pub returns-clause-ok : goal.returns-clause-ok
returns-clause-ok c =
    let item = c.in-Some.ensures.item in
    let found = slice_get_read _ _ _ _ refl item.3.0 item.1 in
    let there = rw c.from.ensures at found in
    let next = asks_somebody c.in_ok-server.field-0 c.next.new.request _ c.in-Some-2.server (rw c.agent.ensures at c.in_ok-server.ensures.ok) c.in-Some-2.is in
    let host_item = c.in-Some-get_mut.ensures.item in
    let host_found = slice_get_read _ _ _ _ refl host_item.3.0 host_item.1 in
    let host_there = rw c.from-2.ensures at host_found in
    IfOk-weaker c.exchange.result _ _
    (λ is_served left fixed all. rw (c.from.ensures, c.from-2.ensures)
    (comes_there fixed c.args.servers.now.items c.args.seats.now.items c.in-Some.seat.now c.exchange.new.seat c.in-Some-get_mut.host.now c.exchange.new.host c.args.number _ c.exchange.new.asked
    c.args.ended.now c.exchange.new.ended is_served all there next host_there left))
    c.exchange.ensures.ok

pub returns-clause-of : goal.returns-clause-of
returns-clause-of c =
    let item = c.in-Some.ensures.item in
    let found = slice_get_read _ _ _ _ refl item.3.0 item.1 in
    let there = rw c.from.ensures at found in
    λ fixed all. rw c.from.ensures
    (of_exchange fixed c.args.seats.now.items c.args.number c.in-Some.seat.now c.exchange.new.seat c.in-Some-get_mut.host.now c.exchange.new.host _ c.exchange.new.asked
    c.args.ended.now c.exchange.new.ended c.exchange.result all there c.exchange.ensures.ok c.exchange.ensures.err)

pub returns-in_err-server-clause-memory : goal.returns-in_err-server-clause-memory
returns-in_err-server-clause-memory c =
    let item = c.in-Some.ensures.item in
    let found = slice_get_read _ _ _ _ refl item.3.0 item.1 in
    let there = rw c.from.ensures at found in
    held c.from_residual.result
    (λ fixed all. (steps_there fixed c.args.servers.now.items c.args.seats.now.items c.args.number c.in-Some.seat.now _ all there refl
    (asking_wants (world_of c.args.servers.now.items c.args.seats.now.items) c.in-Some.seat.now.actor _ (rw c.agent.ensures at c.in_err-server.ensures.memory))))

pub returns-clause-memory : goal.returns-clause-memory
returns-clause-memory c =
    let item = c.in-Some.ensures.item in
    let found = slice_get_read _ _ _ _ refl item.3.0 item.1 in
    let there = rw c.from.ensures at found in
    let next = asks_somebody c.in_ok-server.field-0 c.next.new.request _ c.in-Some-2.server (rw c.agent.ensures at c.in_ok-server.ensures.ok) c.in-Some-2.is in
    let host_item = c.in-Some-get_mut.ensures.item in
    let host_found = slice_get_read _ _ _ _ refl host_item.3.0 host_item.1 in
    let host_there = rw c.from-2.ensures at host_found in
    IfErr-weaker c.exchange.result _ _
    (λ _ wants fixed all.
    let asking = rw c.stamp-asked.ensures at wants in
    steps_there fixed c.args.servers.now.items c.args.seats.now.items c.args.number c.in-Some.seat.now _ all there next
    (exchange_wants c.args.servers.now.items c.args.seats.now.items c.in-Some.seat.now.actor c.in-Some-2.server c.next.new.request c.in-Some-get_mut.host.now host_there (or_later (by_request c.next.new.request) _ asking)))
    c.exchange.ensures.memory
