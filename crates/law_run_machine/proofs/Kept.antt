-- Agents keep to their side in every run: event by event.
use Rattle.law_run_machine.proofs.Vocabulary.{◌≡◌, inl, ℕ, zero, suc, ◌+◌, ◌<◌, ◌≤◌, false, List, [], ◌∷◌, ◌++◌, length, Some, None, refl, sym, ap, subst, ◌∙◌, arith, ◌*◌, slice_get, false≢true, same_Some, none-some}
use Rattle.law_run_machine.proofs.Vocabulary.{max_servers, Opening, Request, Reply, has_prepared, State, reply_of, answer_of, is_full, Replied, Lacked, fixed_of, next_of, take, begin, forget, Actor}
use Rattle.law_run_machine.proofs.Vocabulary.{server_at, actor_at, answered, step, Beginning, World, begun, Event, run, Obeys, Inv, all_steps, Shows, moves, beginning}
use Rattle.law_run_machine.proofs.Vocabulary.{opening_shows, decision_by, own_events, servers_of, home_in, begin_events, answered_events}
use Rattle.law_run_machine.proofs.Vocabulary.{events_of, moved, SidesAreKept, Owed, AreOwed}
use Rattle.law_suite_machine.proofs.Starting.{begins}
use Rattle.law_run_machine.specs.Sides.{AskedWell, DoesWell, KeepsSide, KeepSides}
use Rattle.law_suite_machine.proofs.Lasting.{run_stays}
use Rattle.rep_core.specs.declared.request.Request.TheVariants as request
use Rattle.rep_core.specs.State as state
use Rattle.txn_core.specs.Agents as agents
use Rattle.run_core.specs.declared.event.Event as happening
use Rattle.run_core.specs.Worlds as worlds
use Rattle.run_core.specs.Worlds.{lacked}
use Rattle.law_server_moves.specs.Agents.{AgentSide}
use Rattle.law_run_machine.specs.Machines.{response_events}
use Rattle.law_runs.proofs.Moves.{sent, unstamped, what_of, of_operator}
use Rattle.law_run_machine.proofs.Moves.{by_moves}
use Rattle.law_run_machine.proofs.Servers.{server_there, servers_open}
use Rattle.law_run_machine.proofs.Consistent.{AllConsistent, opening_consistent}
use Rattle.law_run_machine.proofs.Following.{serves, exchanges, event_comes}
use Rattle.law_run_machine.proofs.Joining.{run-append, obeys-append}
use Rattle.law_run_machine.proofs.Quiet.{AreOf, quiet_all}
use Rattle.law_run_machine.proofs.Linked.{Untouched, Linked, AllLinked, linked_later}
use Rattle.law_run_machine.proofs.Turns.{turn}
use Rattle.law_run_machine.proofs.Decided.{may_of}
use Rattle.law_run_machine.proofs.Waiting.{Waiting}
use Rattle.law_run_machine.proofs.Readied.{Readied, ready_next}
use Rattle.law_run_machine.proofs.Jobs.{All, event_all, opens as jobs_open, firsts}
use Rattle.law_run_machine.proofs.Waited.{AllWaiting, waits_first, waits_next}
use Rattle.law_run_machine.proofs.Turned.{served_at, served_concerns, lacked_concerns, asks_well, Stays, all_linked, turned, others_turned, begun_so}

next_number : (u : ℕ) → u ≡ u + 1 → ⊥
next_number u same = absurd (omega arith)

-- ---- the operator's requests are nobody's

crashed_of : (t z : ℕ) (home : ℕ → ℕ) (decision : Event) (i : ℕ) (w : World) (said : Reply) → AreOf t (moves z home decision i w request.Crash said)
crashed_of t z home decision i w said = search arith

returned_of : (t z : ℕ) (home : ℕ → ℕ) (decision : Event) (i : ℕ) (w : World) (said : Reply) → AreOf t (moves z home decision i w request.Return said)
returned_of t z home decision i w said = search arith

module _ (given : Opening) (z : ℕ) (w : World) (world : worlds.World) (inv : Inv (beginning z given) w) (shows : Shows z (home_in given) (servers_of given world) w)
    (all : AllConsistent (servers_of given world)) (linked : AllLinked z w world) (owed : Owed given z w world) (waiting : AllWaiting given world) (readied : Readied z w world)
    (jobs : All (fixed_of given) world) where
  abbrev first : Beginning
  first = beginning z given

  stays_for : (events : List Event) → Obeys first w events → Stays w (run first w events)
  stays_for events obeys t v is = (run_stays first w inv events obeys).verdicts t v is

  -- an event that is nobody's
  nobodys : (events : List Event) → Obeys first w events → ((t : ℕ) → AreOf t events) → AllLinked z (run first w events) world
  nobodys events obeys of n actor there =
      let was = linked n actor there in
      (was.0, linked_later z w (run first w events) n actor.agent was.0 (stays_for events obeys) (λ u place at. quiet_all first w u (u + 1) events (next_number u) obeys (of (u + 1))) was.1)

  -- ---- a request of an agent

  answered_next : (number : ℕ) (actor : Actor) (asked : ℕ × Request) (st : State) → actor_at world number ≡ Some actor → next_of (fixed_of given) actor.agent ≡ Some asked
      → server_at world asked.0 ≡ Some st → is_full st (sent actor asked.1) ≡ false
      → AskedWell given z w actor st.locks (what_of asked.0 st (sent actor asked.1))
      × AllLinked z (run first w (answered_events given z w actor (Some (what_of asked.0 st (sent actor asked.1))))) (answered (fixed_of given) world number actor st (Some (what_of asked.0 st (sent actor asked.1)))).world
  answered_next number actor asked st there next at is =
      let was = linked number actor there in
      let said = reply_of st asked.1 in
      let events = served_at given z w world inv shows all number actor.agent.count actor.agent.doing asked st in
      let side = asks_well given z w world inv shows all number actor.agent.count actor.agent.doing asked st.locks next was.1.doing
      (λ txn_run outcome doing phase undecided. may_of first z w number actor.agent.count actor.agent.doing was.1.doing (readied.agents number actor there) readied.below
      (firsts (fixed_of given) actor.agent z (jobs number actor there)) txn_run outcome doing phase undecided
      (owed.decides number actor txn_run outcome there doing phase undecided))
      (λ txn_run now left outcome doing phase same.
      subst (λ (st : State). has_prepared txn_run.task.t st.locks ≡ false) (ap (servers_of given world) same ∙ server_there given world asked.0 st at)
      (waits_first (servers_of given world) actor.agent.doing (waiting number actor there).now txn_run doing now left outcome phase)) in
      let follows = exchanges given z w world inv shows all actor.agent.doing asked.0 st (sent actor asked.1) at is side in
      let later = run first w events in
      let concerns = served_concerns given z w world inv shows all number actor.agent.count actor.agent.doing asked actor.stamp st next was.1.doing at is follows.obeys follows.shows in
      let it = turn first z w later number actor.agent.count (fixed_of given) actor.agent asked (Replied said) next was.1.doing concerns in
      let taken = take (fixed_of given) actor.agent (Replied said) in
      let own = own_events z actor.agent.doing taken in (
        record { asks = side; does = it.does },
        subst
            (λ w. AllLinked z w (answered (fixed_of given) world number actor st (Some (what_of asked.0 st (sent actor asked.1)))).world) (sym (run-append first w events own))
            (all_linked z w (run first later own) world number actor (worlds.moved actor (answer_of st (sent actor asked.1)).stamp taken) there was.0 linked
            (turned first z w later number (fixed_of given) actor.agent (Replied said) was.0 was.1 it)
            (subst (Stays w) (run-append first w events own) (stays_for (events ++ own) (obeys-append first w events own follows.obeys it.does)))
            (others_turned first z w later number (fixed_of given) actor.agent (Replied said) was.0 was.1 it)),
      )

  -- ---- one that is not served

  lacked_next : (number : ℕ) (actor : Actor) (asked : ℕ × Request) (why : _) → actor_at world number ≡ Some actor → next_of (fixed_of given) actor.agent ≡ Some asked
      → DoesWell given z w actor (Lacked why) × AllLinked z (run first w (response_events given z actor (Lacked why))) (lacked (fixed_of given) world number actor (Lacked why)).world
  lacked_next number actor asked why there next =
      let was = linked number actor there in
      let it = turn first z w w number actor.agent.count (fixed_of given) actor.agent asked (Lacked why) next was.1.doing (lacked_concerns given z w world inv shows all number actor.agent.count actor.agent.doing asked why) in
      let taken = take (fixed_of given) actor.agent (Lacked why) in (
        it.does,
        all_linked z w (run first w (own_events z actor.agent.doing taken)) world number actor (worlds.moved actor actor.stamp taken) there was.0 linked
            (turned first z w w number (fixed_of given) actor.agent (Lacked why) was.0 was.1 it)
            (stays_for (own_events z actor.agent.doing taken) it.does)
            (others_turned first z w w number (fixed_of given) actor.agent (Lacked why) was.0 was.1 it),
      )

  -- ---- every event

  pub next : (event : happening.Event) → KeepsSide given z w world event × AllLinked z (moved given z w world event) (step (fixed_of given) world event).world
  next = by_moves given z w world (λ _ side events stepped. side × AllLinked z (run first w events) stepped.world) (record {
    nothing = λ _. (tt, linked);
    begins = λ number actor job there.
        let was = linked number actor there in
        let it = begun_so first z w number (fixed_of given) actor.agent was.0 was.1 job in (
          it.does,
          all_linked z w (run first w (begin_events given z job (Some actor))) world number actor (record actor { agent = begin (fixed_of given) actor.agent job }) there was.0 linked it.now
              (stays_for (begin_events given z job (Some actor)) it.does) it.others,
        );
    forgets = λ number actor site there.
        let was = linked number actor there in (
          tt,
          all_linked z w w world number actor (record actor { agent = forget actor.agent site }) there was.0 linked
              (record { index = was.1.index; fresh = was.1.fresh; doing = was.1.doing })
              (λ t v is. is)
              (λ u m place at small other. quiet_all first w u (u + 1) [] (next_number u) tt tt),
        );
    answers = answered_next;
    lacks = λ event number actor asked why by there next. lacked_next number actor asked why there next;
    operates = λ event server asked st by there room.
        let side = of_operator (AgentSide (beginning z given) z (home_in given) (decision_by z w None) server st.locks w) tt tt event server asked by in
        let follows = serves given z w world inv shows all None server st (unstamped asked) there room side in (
          tt,
          nobodys (moves z (home_in given) (decision_by z w None) server w asked (reply_of st asked)) follows.obeys
              (λ t. of_operator (λ asked. (said : Reply) → AreOf t (moves z (home_in given) (decision_by z w None) server w asked said))
              (crashed_of t z (home_in given) (decision_by z w None) server w) (returned_of t z (home_in given) (decision_by z w None) server w) event server asked by (reply_of st asked)),
        );
  })

-- ---- all events

sides_from : (given : Opening) (z : ℕ) (w : World) (world : worlds.World) (events : List happening.Event) → Inv (beginning z given) w
    → Shows z (home_in given) (servers_of given world) w → AllConsistent (servers_of given world) → AllLinked z w world → AllWaiting given world → Readied z w world
    → All (fixed_of given) world → AreOwed given z w world events → KeepSides given z w world events
sides_from given z w world [] inv shows all linked waiting readied jobs owed = tt
sides_from given z w world (event ∷ events) inv shows all linked waiting readied jobs owed =
    let one = next given z w world inv shows all linked owed.0 waiting readied jobs event in
    let comes = event_comes given z w world inv shows all event one.0 in (
      one.0,
      sides_from given z (moved given z w world event) (step (fixed_of given) world event).world events
          (all_steps (beginning z given) w inv (events_of given z w world event) comes.obeys) comes.shows comes.consistent one.1 (waits_next given z w world linked waiting event)
          (ready_next given z w world readied event) (event_all (fixed_of given) world jobs event) owed.1,
    )

-- ---- at the opening

pub actor_opens : (start count n : ℕ) (actor : Actor) → slice_get (worlds.actors_from start count) n ≡ Some actor → (n < count) × (actor.agent ≡ agents.opening (start + n))
actor_opens start zero n actor is = absurd (none-some actor is)
actor_opens start (suc count) zero actor is = search (same_Some, arith)
actor_opens start (suc count) (suc n) actor is = search (actor_opens (start + 1) count n actor is, arith)

untouched_begun : (z : ℕ) (given : Opening) (t : ℕ) → Untouched (begun (beginning z given)) t
untouched_begun z given t = record { granted = λ i. refl; told = λ i. refl; aim = refl; going = record { gave_up = refl; verdict = inl refl } }

linked_opening : (z : ℕ) (given : Opening) (n : ℕ) → Linked z (begun (beginning z given)) n (agents.opening n)
linked_opening z given n = record { index = refl; fresh = λ place past. untouched_begun z given (64 * place + n); doing = tt }

pub opens_linked : (z : ℕ) (given : Opening) → given.agents ≤ 64 → AllLinked z (begun (beginning z given)) (worlds.opening given)
opens_linked z given few n actor there = search (actor_opens, linked_opening, arith)

pub opens_waiting : (given : Opening) → AllWaiting given (worlds.opening given)
opens_waiting given n actor there =
    let is = actor_opens 0 given.agents n actor there in
    subst (λ servers. Waiting servers n actor.agent) (sym (servers_open given)) (subst (Waiting (λ i. state.opening i given) n) (sym is.1) (record { fresh = λ place past j. refl; now = tt }))

servers_count : (given : Opening) (start count : ℕ) → length (worlds.servers_from given start count) ≡ count
servers_count given start zero = refl
servers_count given start (suc count) = ap suc (servers_count given (start + 1) count)

pub opens_readied : (z : ℕ) (given : Opening) → given.servers ≤ max_servers → Readied z (begun (beginning z given)) (worlds.opening given)
opens_readied z given few = search (actor_opens, false≢true, servers_count, arith)

pub sides_are_kept : SidesAreKept
sides_are_kept given z events valid few few_servers owed =
    let opens = opening_shows z (home_in given) given valid in
    sides_from given z (begun (beginning z given)) (worlds.opening given) events (begins (beginning z given) opens.0)
    (subst (λ servers. Shows z (home_in given) servers (begun (beginning z given))) (sym (servers_open given)) opens.1)
    (opening_consistent given) (opens_linked z given few) (opens_waiting given) (opens_readied z given few_servers) (λ n actor. jobs_open (fixed_of given) 0 given.agents n actor) owed
