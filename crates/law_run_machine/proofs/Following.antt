-- The machine of a suite follows the world, event by event.
use Rattle.law_run_machine.proofs.Vocabulary.{◌≡◌, ℕ, false, List, [], ◌∷◌, Option, Some, None, refl, sym, ap, subst, ◌∙◌, Opening, Request, Stamped, State, reply_of, is_full, served, Response, Replied, Lacked, Job, arith}
use Rattle.law_run_machine.proofs.Vocabulary.{Doing, fixed_of, begin, Actor, server_at, with_server, answered, operated}
use Rattle.law_run_machine.proofs.Vocabulary.{step, after, World, set1, begun, Event, run, Obeys, Inv, all_steps, Shows, moves, hears, AgentSide, beginning, opening_shows, decision_by, servers_of, home_in, response_events, begin_events}
use Rattle.law_run_machine.proofs.Vocabulary.{answered_events, operated_events, events_of, machine_from, history_from, MachinesFollow}
use Rattle.law_suite_machine.proofs.Starting.{begins}
use Rattle.law_run_machine.specs.Sides.{AskedWell, DoesWell, KeepsSide, KeepSides}
use Rattle.law_server_moves.proofs.Steps.{each_step_moves}
use Rattle.law_server_moves.proofs.Heard.{each_reply_is_heard}
use Rattle.rep_core.specs.Serving as serving
use Rattle.run_core.specs.declared.event.Event as happening
use Rattle.run_core.specs.Worlds as worlds
use Rattle.law_server_moves.specs.Laws as steps
use Rattle.run_core.specs.Worlds.{with_actor, lacked}
use Rattle.law_runs.proofs.Moves.{sent, unstamped, what_of, of_operator}
use Rattle.law_run_machine.proofs.Moves.{by_moves}
use Rattle.law_run_machine.proofs.Servers.{server_there, servers_open}
use Rattle.law_run_machine.proofs.Consistent.{AllConsistent, stepped_is, consistent_serving, opening_consistent}
use Rattle.law_run_machine.proofs.Joining.{run-append, obeys-append}
use Rattle.law_run_machine.proofs.Own.{own_shows, begun_shows}
use Rattle.law_run_machine.proofs.Asked.{exchanged}

-- ---- one event

-- what comes of an event of a world: the machine's events may happen, and it shows the servers after them
pub record Comes (given : Opening) (z : ℕ) (w : World) (events : List Event) (world : worlds.World) : Type 0 where
  pub obeys : Obeys (beginning z given) w events
  pub shows : Shows z (home_in given) (servers_of given world) (run (beginning z given) w events)
  pub consistent : AllConsistent (servers_of given world)

module _ (given : Opening) (z : ℕ) (w : World) (world : worlds.World) (inv : Inv (beginning z given) w) (shows : Shows z (home_in given) (servers_of given world) w) (all : AllConsistent (servers_of given world)) where
  nothing : Comes given z w [] world
  nothing = record { obeys = tt; shows = shows; consistent = all }

  -- a request that is served
  pub serves : (doing : Option Doing) (i : ℕ) (st : State) (asked : Stamped Request) → server_at world i ≡ Some st → is_full st asked ≡ false
      → AgentSide (beginning z given) z (home_in given) (decision_by z w doing) i st.locks w asked.value
      → steps.Follows (beginning z given) z (home_in given) (servers_of given (with_server i (served st asked) world)) w (moves z (home_in given) (decision_by z w doing) i w asked.value (reply_of st asked.value))
  serves doing i st asked there none agent =
      subst (λ servers. steps.Follows (beginning z given) z (home_in given) servers w (moves z (home_in given) (decision_by z w doing) i w asked.value (reply_of st asked.value))) (stepped_is given world i st asked there none)
      (subst (λ st. AgentSide (beginning z given) z (home_in given) (decision_by z w doing) i st.locks w asked.value → is_full st asked ≡ false
      → steps.Follows (beginning z given) z (home_in given) (set1 (servers_of given world) i (serving.step (servers_of given world i) asked)) w
      (moves z (home_in given) (decision_by z w doing) i w asked.value (reply_of st asked.value))) (server_there given world i st there)
      (each_step_moves (beginning z given) z (home_in given) (servers_of given world) i w (decision_by z w doing) asked shows (all i) (inv.sound.fresh i)) agent none)

  -- and of which its agent hears
  hearing : (i : ℕ) (st : State) (asked : Stamped Request) (later : World) → server_at world i ≡ Some st → is_full st asked ≡ false
      → Shows z (home_in given) (servers_of given (with_server i (served st asked) world)) later
      → steps.Follows (beginning z given) z (home_in given) (servers_of given (with_server i (served st asked) world)) later (hears z i asked.value (reply_of st asked.value))
  hearing i st asked later there none shows_later =
      let here = server_there given world i st there in
      let stepped = stepped_is given world i st asked there none in
      subst (λ servers. steps.Follows (beginning z given) z (home_in given) servers later (hears z i asked.value (reply_of st asked.value))) stepped
      (subst (λ st. steps.Follows (beginning z given) z (home_in given) (set1 (servers_of given world) i (serving.step (servers_of given world i) asked)) later (hears z i asked.value (reply_of st asked.value))) here
      (each_reply_is_heard (beginning z given) z (home_in given) (servers_of given world) i later asked (all i) (ap (λ st. is_full st asked) here ∙ none)
      (subst (λ servers. Shows z (home_in given) servers later) (sym stepped) shows_later)))

  pub exchanges : (doing : Option Doing) (i : ℕ) (st : State) (asked : Stamped Request) → server_at world i ≡ Some st → is_full st asked ≡ false
      → AgentSide (beginning z given) z (home_in given) (decision_by z w doing) i st.locks w asked.value
      → steps.Follows (beginning z given) z (home_in given) (servers_of given (with_server i (served st asked) world)) w (exchanged z (home_in given) (decision_by z w doing) i w asked.value (reply_of st asked.value))
  exchanges doing i st asked there none agent =
      let first = moves z (home_in given) (decision_by z w doing) i w asked.value (reply_of st asked.value) in
      let heard = hears z i asked.value (reply_of st asked.value) in
      let does = serves doing i st asked there none agent in
      let then = hearing i st asked (run (beginning z given) w first) there none does.shows in
      record {
        obeys = obeys-append (beginning z given) w first heard does.obeys then.obeys;
        shows = subst (Shows z (home_in given) (servers_of given (with_server i (served st asked) world))) (sym (run-append (beginning z given) w first heard)) then.shows;
      }

  -- ---- a step of an agent

  answered_comes : (number : ℕ) (actor : Actor) (i : ℕ) (asked : Request) (st : State) → server_at world i ≡ Some st → is_full st (sent actor asked) ≡ false → AskedWell given z w actor st.locks (what_of i st (sent actor asked))
      → Comes given z w (answered_events given z w actor (Some (what_of i st (sent actor asked)))) (answered (fixed_of given) world number actor st (Some (what_of i st (sent actor asked)))).world
  answered_comes number actor i asked st there is well =
      let moved = exchanges actor.agent.doing i st (sent actor asked) there is well.asks in
      let first = exchanged z (home_in given) (decision_by z w actor.agent.doing) i w asked (reply_of st asked) in
      let own = response_events given z actor (Replied (reply_of st asked)) in
      record {
        obeys = obeys-append (beginning z given) w first own moved.obeys well.does;
        shows = search (run-append, own_shows, arith);
        consistent = consistent_serving given world i st (sent actor asked) there is all;
      }

  lacked_comes : (number : ℕ) (actor : Actor) (response : Response) → DoesWell given z w actor response → Comes given z w (response_events given z actor response) (lacked (fixed_of given) world number actor response).world
  lacked_comes number actor response well = search (own_shows, arith)

  operated_comes : (i : ℕ) (asked : Request) (st : State) → server_at world i ≡ Some st → AgentSide (beginning z given) z (home_in given) (decision_by z w None) i st.locks w asked → is_full st (unstamped asked) ≡ false
      → Comes given z w (operated_events given z w (Some (what_of i st (unstamped asked)))) (operated world st (Some (what_of i st (unstamped asked)))).world
  operated_comes i asked st there agent is =
      let moved = serves None i st (unstamped asked) there is agent in
      record { obeys = moved.obeys; shows = moved.shows; consistent = consistent_serving given world i st (unstamped asked) there is all }

  begin_comes : (number : ℕ) (actor : Actor) (job : Job) → Obeys (beginning z given) w (begin_events given z job (Some actor))
      → Comes given z w (begin_events given z job (Some actor)) (with_actor number (record actor { agent = begin (fixed_of given) actor.agent job }) world)
  begin_comes number actor job well = search (begun_shows, arith)

  pub event_comes : (event : happening.Event) → KeepsSide given z w world event → Comes given z w (events_of given z w world event) (step (fixed_of given) world event).world
  event_comes = by_moves given z w world (λ _ side events stepped. side → Comes given z w events stepped.world) (record {
    nothing = λ _ _. nothing;
    begins = λ number actor job there well. begin_comes number actor job well;
    forgets = λ number actor site there _. record { obeys = tt; shows = shows; consistent = all };
    answers = λ number actor asked st there next at room well. answered_comes number actor asked.0 asked.1 st at room well;
    lacks = λ event number actor asked why by there next well. lacked_comes number actor (Lacked why) well;
    operates = λ event server asked st by there room _.
        operated_comes server asked st there (of_operator (AgentSide (beginning z given) z (home_in given) (decision_by z w None) server st.locks w) tt tt event server asked by) room;
  })

-- ---- all events

pub record All (given : Opening) (z : ℕ) (w : World) (world : worlds.World) (events : List happening.Event) : Type 0 where
  pub obeys : Obeys (beginning z given) w (history_from given z w world events)
  pub is : machine_from given z w world events ≡ run (beginning z given) w (history_from given z w world events)
  pub shows : Shows z (home_in given) (servers_of given (after (fixed_of given) world events)) (machine_from given z w world events)

pub all_come : (given : Opening) (z : ℕ) (w : World) (world : worlds.World) (events : List happening.Event) → Inv (beginning z given) w
    → Shows z (home_in given) (servers_of given world) w → AllConsistent (servers_of given world) → KeepSides given z w world events → All given z w world events
all_come given z w world [] inv shows all keep = record { obeys = tt; is = refl; shows = shows }
all_come given z w world (event ∷ events) inv shows all keep =
    let first = events_of given z w world event in
    let next = (step (fixed_of given) world event).world in
    let one = event_comes given z w world inv shows all event keep.0 in
    let rest = all_come given z (run (beginning z given) w first) next events (all_steps (beginning z given) w inv first one.obeys) one.shows one.consistent keep.1 in
    record {
      obeys = obeys-append (beginning z given) w first _ one.obeys rest.obeys;
      is = rest.is ∙ sym (run-append (beginning z given) w first (history_from given z (run (beginning z given) w first) next events));
      shows = rest.shows;
    }

pub machines_follow : MachinesFollow
machines_follow given z events valid keep =
    let opens = opening_shows z (home_in given) given valid in
    let all = all_come given z (begun (beginning z given)) (worlds.opening given) events (begins (beginning z given) opens.0)
    (subst (λ servers. Shows z (home_in given) servers (begun (beginning z given))) (sym (servers_open given)) opens.1)
    (opening_consistent given) keep in
    record { begins = opens.0; obeys = all.obeys; is = all.is; shows = all.shows }
