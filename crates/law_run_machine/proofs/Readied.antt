-- In every run each server that told a transaction of a copy has prepared, where it is decided: event by event.
use Rattle.law_run_machine.proofs.Vocabulary.{◌≡◌, ℕ, ◌+◌, ◌<◌, ◌≤◌, true, false, cond, List, ◌∷◌, ◌++◌, length, Option, Some, None, is_some, refl, sym, ap, subst, ◌∙◌, arith, ◌&&◌, ◌*◌, nat_lt, slice_get, slice_set, same_Some, slice_get_within}
use Rattle.law_run_machine.proofs.Vocabulary.{length-set, max_servers, Opening, Request, Reply, State, reply_of, answer_of, served, Response, Replied, Lacked, Job, Transaction, Sweep, Doing, Agent, fixed_of, next_in, next_of, take, take_in}
use Rattle.law_run_machine.proofs.Vocabulary.{begin, started, forget, is_idle, has_sense, max_jobs, asks_same, Actor, server_at, actor_at, answered, operated}
use Rattle.law_run_machine.proofs.Vocabulary.{step, Beginning, World, Event, happens, run, at2, moves, hears, beginning, decision_by, own_events, home_in, begin_events, answered_events}
use Rattle.law_run_machine.proofs.Vocabulary.{operated_events, response_events, moved}
use Rattle.run_core.specs.declared.event.Event as happening
use Rattle.run_core.specs.Worlds as worlds
use Rattle.run_core.specs.Worlds.{with_actor, lacked}
use Rattle.law_runs.proofs.Moves.{sent, unstamped, what_of}
use Rattle.law_run_machine.proofs.Moves.{by_moves}
use Rattle.law_run_machine.proofs.Joining.{run-append}
use Rattle.law_run_machine.proofs.Own.{own_unheard, begun_unheard}
use Rattle.law_run_machine.proofs.Asked.{hears_as, exchanged, told_served}
use Rattle.law_run_machine.proofs.Sending.{asks_there}
use Rattle.law_run_machine.proofs.Turned.{set_here, set_apart, same_or}
use Rattle.law_run_machine.proofs.Readying.{IsReadying, PreparesNow, ready_stays, prepared_now, ready_begin, readying_left, readying_later, take_readying}

-- ---- copies are told of at servers that are there

-- servers that told of a copy are numbered below the most servers that there are
abbrev pub ToldBelow : World → Type 0
ToldBelow w = (j u : ℕ) → is_some (w.told j u) ≡ true → j < max_servers

module _ (start : Beginning) (z : ℕ) (home : ℕ → ℕ) (decision : Event) (i : ℕ) (w : World) (small : i < max_servers) (below : ToldBelow w) (keeps : (happens start w decision).told ≡ w.told) where
  pub below_served : (asked : Request) (said : Reply) → ToldBelow (run start w (moves z home decision i w asked said))
  below_served asked said j u is = below j u (ap (λ told. is_some (told j u)) (sym (told_served start z home decision i w asked said keeps)) ∙ is)

  pub below_exchanged : (asked : Request) (said : Reply) → ToldBelow (run start w (exchanged z home decision i w asked said))
  below_exchanged asked said =
      let later = run start w (moves z home decision i w asked said) in
      subst ToldBelow (sym (run-append start w (moves z home decision i w asked said) (hears z i asked said)))
      (hears_as z i (λ events. ToldBelow (run start later events)) asked said
      (λ _. below_served asked said)
      (λ t exclusive _ _ j u.
      at2 (λ o. is_some o ≡ true → j < max_servers) later.told i t (Some (record { exclusive = exclusive; copy = later.copy i })) j u
      (λ at _. subst (λ j. j < max_servers) (sym at.0) small)
      (λ _ is. below_served asked said j u is)))

decision_keeps : (start : Beginning) (z : ℕ) (w : World) (doing : Option Doing) → (happens start w (decision_by z w doing)).told ≡ w.told
decision_keeps start z w doing = search arith

-- ---- agents, event by event

abbrev pub AllReadying : ℕ → World → worlds.World → Type 0
AllReadying z w world = (n : ℕ) (actor : Actor) → actor_at world n ≡ Some actor → IsReadying z w actor.agent.doing

-- agents and machine, and the servers
pub record Readied (z : ℕ) (w : World) (world : worlds.World) : Type 0 where
  pub agents : AllReadying z w world
  pub below : ToldBelow w
  pub few : length world.servers ≤ max_servers

more_ready : (start : Beginning) (w : World) (events : List Event) (i u : ℕ) → is_some (w.ready i u) ≡ true → is_some ((run start w events).ready i u) ≡ true
more_ready start w events i u is = ready_stays start w events i u is

-- one agent changes, and the machine
set_readying : (z : ℕ) (w later : World) (world : worlds.World) (n : ℕ) (was now : Actor) → actor_at world n ≡ Some was → AllReadying z w world
    → ((i u : ℕ) → is_some (w.ready i u) ≡ true → is_some (later.ready i u) ≡ true) → IsReadying z later now.agent.doing
    → (m : ℕ) (x : Actor) → slice_get (slice_set world.agents n now) m ≡ Some x → IsReadying z later x.agent.doing
set_readying z w later world n was now there all more here m x is = search (same_or, same_Some, set_here, slice_get, slice_set, readying_later, set_apart, arith)

-- what is answered Prepared
now_prepared : (given : Opening) (z : ℕ) (w : World) (doing : Option Doing) (asked : ℕ × Request) (st : State) → next_in (fixed_of given) doing ≡ Some asked
    → PreparesNow z (run (beginning z given) w (moves z (home_in given) (decision_by z w doing) asked.0 w asked.1 (reply_of st asked.1))) doing (Replied (reply_of st asked.1))
now_prepared given z w doing asked st is before now left outcome running phase said held = search (asks_same, asks_there, prepared_now, arith)

still_prepared : (given : Opening) (z : ℕ) (w : World) (doing : Option Doing) (response : Response) (first later : List Event)
    → PreparesNow z (run (beginning z given) w first) doing response → PreparesNow z (run (beginning z given) w (first ++ later)) doing response
still_prepared given z w doing response first later is before now left outcome running phase said held =
    ap (λ (w : World). is_some (w.ready now before.task.t)) (run-append (beginning z given) w first later)
    ∙ ready_stays (beginning z given) (run (beginning z given) w first) later now before.task.t (is before now left outcome running phase said held)

module _ (given : Opening) (z : ℕ) (w : World) (world : worlds.World) (is : Readied z w world) where
  abbrev first : Beginning
  first = beginning z given

  answered_ready : (number : ℕ) (actor : Actor) (asked : ℕ × Request) (st : State) → actor_at world number ≡ Some actor → next_of (fixed_of given) actor.agent ≡ Some asked → server_at world asked.0 ≡ Some st
      → Readied z (run first w (answered_events given z w actor (Some (what_of asked.0 st (sent actor asked.1))))) (answered (fixed_of given) world number actor st (Some (what_of asked.0 st (sent actor asked.1)))).world
  answered_ready number actor asked st there next at =
      let said = reply_of st asked.1 in
      let taken = take (fixed_of given) actor.agent (Replied said) in
      let events = exchanged z (home_in given) (decision_by z w actor.agent.doing) asked.0 w asked.1 said in
      let own = own_events z actor.agent.doing taken in
      let later = run first w events in
      let small : asked.0 < max_servers = by (slice_get_within world.servers asked.0 st at) is.few in
      let below = below_exchanged first z (home_in given) (decision_by z w actor.agent.doing) asked.0 w small is.below (decision_keeps first z w actor.agent.doing) asked.1 said in
      subst
      (λ w. Readied z w (answered (fixed_of given) world number actor st (Some (what_of asked.0 st (sent actor asked.1)))).world) (sym (run-append first w events own)) (record {
        agents = set_readying z w (run first later own) world number actor (worlds.moved actor (answer_of st (record { stamp = actor.stamp; value = asked.1 })).stamp taken) there is.agents
            (λ i u ready. more_ready first later own i u (more_ready first w events i u ready))
            (readying_later z later (run first later own) taken.agent.doing (more_ready first later own)
            (subst (λ o. IsReadying z later (take_in (fixed_of given) actor.agent (Replied said) actor.agent.doing o).agent.doing) (sym next)
            (take_readying z w later (fixed_of given) actor.agent (Replied said) actor.agent.doing asked (more_ready first w events) next (is.agents number actor there) (still_prepared given z w actor.agent.doing (Replied said) (moves z (home_in given) (decision_by z w actor.agent.doing) asked.0 w asked.1 said) (hears z asked.0 asked.1 said)
            (now_prepared given z w actor.agent.doing asked st next)))));
        below = λ j u told. below j u (ap (λ told. is_some (told j u)) (sym (own_unheard first z actor.agent.doing taken later).told) ∙ told);
        few = subst (λ n. n ≤ max_servers) (sym (length-set world.servers asked.0 (served st (record { stamp = actor.stamp; value = asked.1 })))) is.few;
      })
    where
      by : {a b : ℕ} → a < b → b ≤ max_servers → a < max_servers
      by x y = omega arith

  lacks_ready : (number : ℕ) (actor : Actor) (asked : ℕ × Request) (why : _) → actor_at world number ≡ Some actor → next_of (fixed_of given) actor.agent ≡ Some asked
      → Readied z (run first w (response_events given z actor (Lacked why))) (lacked (fixed_of given) world number actor (Lacked why)).world
  lacks_ready number actor asked why there next =
      let taken = take (fixed_of given) actor.agent (Lacked why) in
      let own = own_events z actor.agent.doing taken in
      record {
        agents = set_readying z w (run first w own) world number actor (worlds.moved actor actor.stamp taken) there is.agents (more_ready first w own)
            (readying_later z w (run first w own) taken.agent.doing (more_ready first w own)
            (subst (λ o. IsReadying z w (take_in (fixed_of given) actor.agent (Lacked why) actor.agent.doing o).agent.doing) (sym next)
            (take_readying z w w (fixed_of given) actor.agent (Lacked why) actor.agent.doing asked (λ i u is. is) next (is.agents number actor there) (λ before now left outcome running phase said. absurd cc))));
        below = λ j u told. is.below j u (ap (λ told. is_some (told j u)) (sym (own_unheard first z actor.agent.doing taken w).told) ∙ told);
        few = is.few;
      }

  -- the operator tells nobody of a copy
  operated_ready : (i : ℕ) (asked : Request) (st : State) → server_at world i ≡ Some st
      → Readied z (run first w (operated_events given z w (Some (what_of i st (unstamped asked))))) (operated world st (Some (what_of i st (unstamped asked)))).world
  operated_ready i asked st there =
      let events = moves z (home_in given) (decision_by z w None) i w asked (reply_of st asked) in
      record {
        agents = λ m x at. readying_later z w (run first w events) x.agent.doing (more_ready first w events) (is.agents m x at);
        below = below_served first z (home_in given) (decision_by z w None) i w (by (slice_get_within world.servers i st there) is.few) is.below refl asked (reply_of st asked);
        few = subst (λ n. n ≤ max_servers) (sym (length-set world.servers i (served st (unstamped asked)))) is.few;
      }
    where
      by : {a b : ℕ} → a < b → b ≤ max_servers → a < max_servers
      by x y = omega arith

  began_ready : (agent : Agent) (job : Job) → IsReadying z w agent.doing → IsReadying z w (begin (fixed_of given) agent job).doing
  began_ready agent job ready =
      elim (is_idle agent.doing && has_sense (fixed_of given) job && nat_lt agent.count max_jobs) as (λ b. IsReadying z w (cond b (record (started (fixed_of given) agent job) { count = agent.count + 1 }) agent).doing) [
        | true ↦ by job
        | false ↦ ready
      ]
    where
      by : (job : Job) → IsReadying z w (started (fixed_of given) agent job).doing
      by (Transaction caller site ops) = readying_left z w (64 * agent.count + agent.index) _ (ready_begin z w (record { t = 64 * agent.count + agent.index; caller = caller; site = site; ops = ops }) (fixed_of given) agent.cache)
      by (Sweep server) = tt

  begin_ready : (number : ℕ) (actor : Actor) (job : Job) → actor_at world number ≡ Some actor
      → Readied z (run first w (begin_events given z job (Some actor))) (with_actor number (record actor { agent = begin (fixed_of given) actor.agent job }) world)
  begin_ready number actor job there =
      let events = begin_events given z job (Some actor) in
      record {
        agents = set_readying z w (run first w events) world number actor (record actor { agent = begin (fixed_of given) actor.agent job }) there is.agents (more_ready first w events)
            (readying_later z w (run first w events) (begin (fixed_of given) actor.agent job).doing (more_ready first w events) (began_ready actor.agent job (is.agents number actor there)));
        below = λ j u told. is.below j u (ap (λ told. is_some (told j u)) (sym (begun_unheard first z actor.agent.doing (begin (fixed_of given) actor.agent job).doing w).told) ∙ told);
        few = is.few;
      }

  forget_ready : (number : ℕ) (actor : Actor) (site : ℕ) → actor_at world number ≡ Some actor → Readied z w (with_actor number (record actor { agent = forget actor.agent site }) world)
  forget_ready number actor site there = record {
    agents = set_readying z w w world number actor (record actor { agent = forget actor.agent site }) there is.agents
        (λ i u ready. ready) (is.agents number actor there);
    below = is.below;
    few = is.few;
  }

  pub ready_next : (event : happening.Event) → Readied z (moved given z w world event) (step (fixed_of given) world event).world
  ready_next = by_moves given z w world (λ _ _ events stepped. Readied z (run first w events) stepped.world) (record {
    nothing = λ _. is;
    begins = begin_ready;
    forgets = forget_ready;
    answers = λ number actor asked st there next at room. answered_ready number actor asked st there next at;
    lacks = λ event number actor asked why by there next. lacks_ready number actor asked why there next;
    operates = λ event server asked st by there room. operated_ready server asked st there;
  })
