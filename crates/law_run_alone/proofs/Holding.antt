-- As long as one transaction alone asks servers and none crashes, the locks that it was told of stand, until it tells how it ended.
use Rattle.law_run_alone.proofs.Vocabulary.{◌≡◌, inl, inr, ℕ, Bool, false, List, [], ◌∷◌, ◌++◌, Option, Some, None, refl, sym, ap, subst, ◌∙◌, slice_get, slice_set, same_Some, none-some, Opening, Request, State, reply_of, answer_of, arith}
use Rattle.law_run_alone.proofs.Vocabulary.{Response, Replied, Lacked, Ending, Cache, Suites, suite_of, Fixed, Task, Phase, Gathering, Fetching, Widening, Preparing, Deciding, Finishing, Doing, Running, RunningSweep, tell_end}
use Rattle.law_run_alone.proofs.Vocabulary.{after_response, request_in, Agent, fixed_of, next_in, next_of, left, take_in, take, begin, forget, asks_same, asked_as, fetched_as, Event, Crash, Return, Actor, actor_at}
use Rattle.law_run_alone.proofs.Vocabulary.{step, begins_now, at_puts, puts_in, Inv, beginning, decision_by, own_events}
use Rattle.law_suite_machine.specs.Machine.{World}
use Rattle.law_suite_machine.specs.Events.{run}
use Rattle.law_suite_machine.specs.Conditions.{Obeys}
use Rattle.law_run_machine.specs.Machines.{moved, home_in, begin_events, response_events, answered_events, operated_events, events_of}
use Rattle.law_runs.proofs.Moves.{sent, unstamped, what_of, operator_asks}
use Rattle.law_run_machine.proofs.Asked.{exchanged}
use Rattle.law_run_machine.proofs.Moves.{by_moves}
use Rattle.rep_core.specs.declared.request.Request.TheVariants as request
use Rattle.rep_core.specs.declared.reply.Verdict as replied
use Rattle.run_core.specs.Worlds as worlds
use Rattle.law_suite_machine.specs.Events as machine
use Rattle.law_run_alone.proofs.Turns.{with_job}
use Rattle.law_run_alone.proofs.Walks.{begun_same}
use Rattle.law_run_alone.proofs.Owns.{IsCalm}
use Rattle.law_run_alone.proofs.Standing.{Stands, AllSpare, all_spare-append, stands_all, spare_begun, spare_own, spare_decision, releases, spare_moves, spare_exchanged}

-- ---- an agent

-- until it tells how it ended
abbrev pub PhaseStands : World → ℕ → Phase → Type 0
PhaseStands w t (Finishing servers v ending) = Unit {0}
PhaseStands w t other = Stands w t

abbrev pub DoingStands : World → ℕ → Option Doing → Type 0
DoingStands w t (Some (Running txn_run)) = PhaseStands w t txn_run.phase
DoingStands w t other = Unit {0}

pub doing_any : (w : World) (t : ℕ) (doing : Option Doing) → Stands w t → DoingStands w t doing
doing_any w t doing h3 = search arith

module _ (w later : World) (t : ℕ) (keeps : Stands w t → Stands later t) where
  doing_later : (doing : Option Doing) → DoingStands w t doing → DoingStands later t doing
  doing_later doing h1 = search arith

-- ---- a response

module _ (fixed : Fixed) (agent : Agent) (response : Response) (asked : ℕ × Request) (w later : World) (t : ℕ) (keeps : releases asked.1 ≡ false → Stands w t → Stands later t) where
  told_end : (task : Task) (cache : Cache) (suites : Suites) (v : replied.Verdict) (ending : Ending) (servers : List ℕ) → DoingStands later t (left Running (tell_end task cache suites v ending servers).after)
  told_end task cache suites v ending servers = search arith

  module _ (task : Task) (suites : Suites) where
    abbrev Took : Phase → Type 0
    Took phase = DoingStands later t (left Running (after_response fixed (record { task = task; suites = suites; phase = phase }) agent.cache asked.0 asked.1 response).after)

    took_early : (phase : Phase) → releases asked.1 ≡ false → Stands w t → Took phase
    took_early phase none stands = doing_any later t (left Running (after_response fixed (record { task = task; suites = suites; phase = phase }) agent.cache asked.0 asked.1 response).after) (keeps none stands)

    took_phase : (phase : Phase) → request_in fixed task suites phase ≡ Some asked → PhaseStands w t phase → Took phase
    took_phase (Gathering number) is stands = took_early (Gathering number) (asked_as releases false task number (suite_of suites number) asked.0 asked.1 (λ mode. refl) refl is) stands
    took_phase (Fetching number) is stands = took_early (Fetching number) (fetched_as releases false task number (suite_of suites number) asked.0 asked.1 refl is) stands
    took_phase (Widening (number ∷ left) granted) is stands = took_early (Widening (number ∷ left) granted) (asked_as releases false task number (suite_of suites number) asked.0 asked.1 (λ mode. refl) refl is) stands
    took_phase (Preparing (now ∷ left) outcome) is stands = search (took_early, releases, asks_same, arith)
    took_phase (Deciding outcome) is stands = search (took_early, releases, asks_same, arith)
    took_phase (Finishing (now ∷ rest) v ending) is stands = search (told_end, arith)
    took_phase other is stands = cc

  pub took_stands : (doing : Option Doing) → agent.doing ≡ doing → next_in fixed doing ≡ Some asked → DoingStands w t doing → DoingStands later t (take_in fixed agent response doing (Some asked)).agent.doing
  took_stands (Some (Running txn_run)) was is stands = took_phase txn_run.task txn_run.suites txn_run.phase is stands
  took_stands (Some (RunningSweep sweep_run)) was is stands = search arith
  took_stands None was is stands = cc

-- ---- a world

-- those of the agent with this number
abbrev pub AtStands : World → worlds.World → ℕ → ℕ → Type 0
AtStands w world t turn = (actor : Actor) → actor_at world turn ≡ Some actor → DoingStands w t actor.agent.doing

module _ (given : Opening) (up : ℕ → Bool) (t turn : ℕ) (world : worlds.World) (z : ℕ) (w : World) (inv : Inv (beginning z given) w) (stands : AtStands w world t turn) where
  abbrev fixed : Fixed
  fixed = fixed_of given

  abbrev after : List machine.Event → World
  after events = run (beginning z given) w events

  spared : (events : List machine.Event) → Obeys (beginning z given) w events → AllSpare events → (doing : Option Doing) → DoingStands w t doing → DoingStands (after events) t doing
  spared events may spares = doing_later w (after events) t (stands_all (beginning z given) w inv events may t spares)

  -- another agent stands at a number, with the same job
  same_stands : (events : List machine.Event) → Obeys (beginning z given) w events → AllSpare events → (i : ℕ) (actor new : Actor) → actor_at world i ≡ Some actor → (i ≡ turn → new.agent.doing ≡ actor.agent.doing)
      → (found : Actor) → slice_get (slice_set world.agents i new) turn ≡ Some found → DoingStands (after events) t found.agent.doing
  same_stands events may spares i actor new is same found there =
      elim (at_puts (slice_get world.agents) (slice_get (slice_set world.agents i new)) i actor new (puts_in world.agents i actor new is) turn found there) [
        | inl here ↦
            subst (DoingStands (after events) t) (sym (ap (λ (actor : Actor). actor.agent.doing) here.is ∙ same (sym here.at)))
            (spared events may spares actor.agent.doing (stands actor (ap (actor_at world) here.at ∙ is)))
        | inr elsewhere ↦ spared events may spares found.agent.doing (stands found elsewhere.was)
      ]

  -- an agent took a response of what it asked
  took_at : (events : List machine.Event) → Obeys (beginning z given) w events → (i : ℕ) (actor : Actor) (asked : ℕ × Request) (response : Response) (stamp : ℕ) → actor_at world i ≡ Some actor
      → next_of fixed actor.agent ≡ Some asked → (releases asked.1 ≡ false → AllSpare events)
      → ((i ≡ turn → ⊥) → AllSpare events)
      → (found : Actor) → slice_get (slice_set world.agents i (worlds.moved actor stamp (take fixed actor.agent response))) turn ≡ Some found → DoingStands (after events) t found.agent.doing
  took_at events may i actor asked response stamp is next spares apart found there =
      let new = worlds.moved actor stamp (take fixed actor.agent response) in
      elim (at_puts (slice_get world.agents) (slice_get (slice_set world.agents i new)) i actor new (puts_in world.agents i actor new is) turn found there) [
        | inl here ↦
            subst (λ (actor : Actor). DoingStands (after events) t actor.agent.doing) (sym here.is)
            (subst (λ asked. DoingStands (after events) t (take_in fixed actor.agent response actor.agent.doing asked).agent.doing) (sym next)
            (took_stands fixed actor.agent response asked w (after events) t (λ none. stands_all (beginning z given) w inv events may t (spares none)) actor.agent.doing refl next
            (stands actor (ap (actor_at world) here.at ∙ is))))
        | inr elsewhere ↦ spared events may (apart (λ at. elsewhere.apart (sym at))) found.agent.doing (stands found elsewhere.was)
      ]

  answered_spares : (actor : Actor) (asked : ℕ × Request) (st : State) → releases asked.1 ≡ false → AllSpare (answered_events given z w actor (Some (what_of asked.0 st (sent actor asked.1))))
  answered_spares actor asked st none =
      all_spare-append (exchanged z (home_in given) (decision_by z w actor.agent.doing) asked.0 w asked.1 (reply_of st asked.1)) (own_events z actor.agent.doing (take fixed actor.agent (Replied (reply_of st asked.1))))
      (spare_exchanged z (home_in given) (decision_by z w actor.agent.doing) (spare_decision z w actor.agent.doing) asked.0 w asked.1 (reply_of st asked.1) none)
      (spare_own z actor.agent.doing (take fixed actor.agent (Replied (reply_of st asked.1))))

  -- what the operator asks in calm takes no lock away
  calm_operator : (event : Event) (server : ℕ) (asked : Request) → operator_asks event ≡ Some (server, asked) → IsCalm given up turn world event → releases asked ≡ false
  calm_operator (Crash s) server asked is calm = absurd calm
  calm_operator (Return s) server asked is calm = ap (λ (asked : ℕ × Request). releases asked.1) (sym (same_Some (s, request.Return) (server, asked) is))
  calm_operator other server asked is calm = absurd (none-some (server, asked) is)

  -- every calm event
  pub event_stands : (event : Event) → Obeys (beginning z given) w (events_of given z w world event) → IsCalm given up turn world event → AtStands (moved given z w world event) (step fixed world event).world t turn
  event_stands = by_moves given z w world (λ event _ events stepped. Obeys (beginning z given) w events → IsCalm given up turn world event → AtStands (after events) stepped.world t turn) (record {
    nothing = λ event may calm. stands;
    begins = λ number actor job there may calm.
        same_stands (begin_events given z job (Some actor)) may (spare_begun z actor.agent.doing (begin fixed actor.agent job).doing) number actor (record actor { agent = begin fixed actor.agent job }) there
        (λ at. begun_same given number job actor (subst (λ found. with_job job (begins_now fixed number job found) ≡ None) there (calm at)));
    forgets = λ number actor site there may calm. same_stands [] may tt number actor (record actor { agent = forget actor.agent site }) there (λ at. refl);
    answers = λ number actor asked st there next at room may calm.
        took_at (answered_events given z w actor (Some (what_of asked.0 st (sent actor asked.1)))) may number actor asked (Replied (reply_of st asked.1)) (answer_of st (sent actor asked.1)).stamp there next
        (answered_spares actor asked st) (λ apart. absurd (apart (calm actor asked there next)));
    lacks = λ event number actor asked why by there next may calm.
        let spares = spare_own z actor.agent.doing (take fixed actor.agent (Lacked why)) in
        took_at (response_events given z actor (Lacked why)) may number actor asked (Lacked why) actor.stamp there next (λ none. spares) (λ apart. spares);
    operates = λ event server asked st by there room may calm found there'.
        spared (operated_events given z w (Some (what_of server st (unstamped asked)))) may
        (spare_moves z (home_in given) (decision_by z w None) (spare_decision z w None) server w asked (reply_of st asked) (calm_operator event server asked by calm)) found.agent.doing (stands found there');
  })
