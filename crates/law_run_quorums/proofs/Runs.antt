-- In every run collectors hold what machines told.
use Rattle.law_run_quorums.proofs.Vocabulary.{Opening, fixed_of, step, World, begun, Inv, Shows, beginning, AreOwed, servers_open, AllConsistent, opening_consistent, AllLinked, AllAgree, CollectorsAgree, arith}
use Rattle.std.proofs.Common.{ℕ, List, [], ◌∷◌, sym, subst}
use Rattle.run_core.specs.Runs.{after}
use Rattle.law_suite_machine.proofs.Steps.{all_steps}
use Rattle.law_suite_machine.proofs.Starting.{begins}
use Rattle.law_server_moves.proofs.Opening.{opening_shows}
use Rattle.law_run_machine.specs.Machines.{servers_of, home_in, events_of, moved, machine_from}
use Rattle.law_run_machine.proofs.Following.{event_comes}
use Rattle.law_run_machine.proofs.Waited.{AllWaiting, waits_next}
use Rattle.law_run_machine.proofs.Readied.{Readied, ready_next}
use Rattle.law_run_machine.proofs.Jobs.{All, event_all, opens as jobs_open}
use Rattle.law_run_machine.proofs.Kept.{next, actor_opens, opens_linked, opens_waiting, opens_readied}
use Rattle.run_core.specs.declared.event.Event as happening
use Rattle.run_core.specs.Worlds as worlds
use Rattle.law_run_quorums.proofs.Events.{event_agrees}

agree_from : (given : Opening) (z : ℕ) (w : World) (world : worlds.World) (events : List happening.Event) → Inv (beginning z given) w
    → Shows z (home_in given) (servers_of given world) w → AllConsistent (servers_of given world) → AllLinked z w world → AllWaiting given world → Readied z w world
    → All (fixed_of given) world → AllAgree z w world → AreOwed given z w world events
    → AllAgree z (machine_from given z w world events) (after (fixed_of given) world events)
agree_from given z w world [] inv shows all linked waiting readied jobs agree owed = agree
agree_from given z w world (event ∷ events) inv shows all linked waiting readied jobs agree owed =
    let one = next given z w world inv shows all linked owed.0 waiting readied jobs event in
    let comes = event_comes given z w world inv shows all event one.0 in
    agree_from given z (moved given z w world event) (step (fixed_of given) world event).world events
    (all_steps (beginning z given) w inv (events_of given z w world event) comes.obeys) comes.shows comes.consistent one.1 (waits_next given z w world linked waiting event)
    (ready_next given z w world readied event) (event_all (fixed_of given) world jobs event)
    (event_agrees given z w world inv shows all linked agree event one.0) owed.1

pub opens_agree : (given : Opening) (z : ℕ) → AllAgree z (begun (beginning z given)) (worlds.opening given)
opens_agree given z n actor there = search (actor_opens, arith)

pub collectors_agree : CollectorsAgree
collectors_agree given z events valid few few_servers owed =
    let opens = opening_shows z (home_in given) given valid in
    agree_from given z (begun (beginning z given)) (worlds.opening given) events (begins (beginning z given) opens.0)
    (subst (λ servers. Shows z (home_in given) servers (begun (beginning z given))) (sym (servers_open given)) opens.1)
    (opening_consistent given) (opens_linked z given few) (opens_waiting given) (opens_readied z given few_servers) (λ n actor. jobs_open (fixed_of given) 0 given.agents n actor) (opens_agree given z) owed
