-- A transaction that nobody robs: until its end is fixed no server has it recorded.
use Rattle.law_run_recovers.proofs.Vocabulary.{◌≡◌, ⊎_elim, ℕ, ◌+◌, Bool, true, false, List, Option, Some, None, is_some, refl, sym, ap, subst, ◌∙◌, arith, ◌*◌, ◌==◌, ◌||◌, slice_get, slice_set, false≢true, eqb-true, eq-eqb, false_from_ne_true}
use Rattle.law_run_recovers.proofs.Vocabulary.{none-some, same_Some, Opening, IsAccepted, LockMode, AuditItem, Lock, Verdict, Request, State, record_of, served, Replied, is_decide, Agent, fixed_of, begin, forget, take_in, next_of, Served, Event}
use Rattle.law_run_recovers.proofs.Vocabulary.{Begin, Step, Crash, Return, Forget, Lack, Actor, World, server_at, actor_at, step, decisions, run, names, may_sweep, same_place, agents_ask_for_themselves, holds_of, same_or, agent_of, puts_in, takes}
use Rattle.law_run_recovers.proofs.Vocabulary.{robs, hinders_itself, bereaves}
use Rattle.rep_core.proofs.Records.{record_apart}
use Rattle.rep_core.specs.Service.{after, after_locking, after_record, after_up, after_down, reply_of}
use Rattle.rep_core.specs.declared.request.Request.TheVariants as request
use Rattle.law_run_recovers.proofs.AtWork.{takes_nothing}
use Rattle.law_run_recovers.proofs.Keeps.{IsAtWork, Works, works, last_of, step_asks, operates_it, becomes_none, lacks_none}
use Rattle.law_run_recovers.proofs.Serves.{Serves, event_serves}
use Rattle.law_run_recovers.proofs.Still.{IsOpen, open_undecided}
use Rattle.law_run_recovers.proofs.StepsServed.{OwnTook, own_took}

-- ---- a server

-- whether a request may have a transaction recorded
abbrev pub fixes : ℕ → Request → Bool
fixes t (request.Decide named decision) = named == t
fixes t (request.Resolve named) = named == t
fixes t other = false

apart_from : (a b : ℕ) → (a == b) ≡ false → b ≡ a → ⊥
apart_from a b apart same = false≢true (sym apart ∙ eq-eqb a b (sym same))

module _ (st : State) (t : ℕ) where
  locking_same : (other : Option Lock) (u suite : ℕ) (m : LockMode) → record_of (after_locking other u suite m st) t ≡ record_of st t
  locking_same other u suite m = search arith

  record_same : (old : Option Verdict) (u : ℕ) (v : Verdict) (item : Option AuditItem) → (u == t) ≡ false → record_of (after_record old u v item st) t ≡ record_of st t
  record_same (Some old) u v item apart = refl
  record_same None u v item apart = record_apart st u t v item (apart_from u t apart)

  up_same : (asked : Request) → fixes t asked ≡ false → record_of (after_up st asked) t ≡ record_of st t
  up_same asked h1 = search (locking_same, record_same, arith)

  down_same : (asked : Request) → record_of (after_down st asked) t ≡ record_of st t
  down_same asked = search arith

  pub after_same : (asked : Request) → (st.up ≡ true → fixes t asked ≡ false) → record_of (after st asked) t ≡ record_of st t
  after_same asked calm = search (up_same, down_same, arith)

-- ---- one event

module _ (given : Opening) (accepted : IsAccepted given) (all : List Event) (agent t : ℕ) (at_work : IsAtWork (run given all) agent t) (none : (i : ℕ) (st : State) → server_at (run given all) i ≡ Some st → record_of st t ≡ None) where
  abbrev w : World
  w = run given all

  here : Works w agent t
  here = works w agent t at_work

  -- only its agent asks for its decision
  other_number : (other : ℕ) (actor : Actor) (u : ℕ) → actor_at w other ≡ Some actor → u + 64 ≡ 64 * actor.agent.count + other → (other == agent) ≡ false → (u == t) ≡ false
  other_number other actor u at last apart =
      let holds = holds_of given accepted all in
      let mine = last_of (decisions given all) agent here.actor.agent.count t here.actor.agent.doing (holds.agents.at agent here.actor.agent (ap agent_of here.there)) here.runs_it in
      false_from_ne_true (u == t) (λ is.
      let same = eqb-true u t is in
      let places = same_place actor.agent.count here.actor.agent.count other agent (omega (arith, last, mine, same)) (holds.agents.small other actor.agent (ap agent_of at))
      (holds.agents.small agent here.actor.agent (ap agent_of here.there)) in
      false≢true (sym apart ∙ eq-eqb other agent places.1))

  unresolved : (st : State) (u : ℕ) → record_of st t ≡ None → takes t st (request.Resolve u) ≡ false → (u == t) ≡ false
  unresolved st u free calm = search arith

  module _ (event : Event) (spared : (hinders_itself given agent w event || (robs given agent t w event || bereaves given agent t w event)) ≡ false) (still : IsAtWork (step (fixed_of given) w event).world agent t) where
    fixes_none : (what : Served) (st : State) → (step (fixed_of given) w event).done.served ≡ Some what → server_at w what.server ≡ Some st → st.up ≡ true → fixes t what.request.value ≡ false
    fixes_none what st done at up = of event refl done
      where
        untaken : takes t st what.request.value ≡ false
        untaken = (takes_nothing given accepted all agent t at_work event spared what st done at up).0

        by_value : (asked : Request) → what.request.value ≡ asked → ((u : ℕ) (decision : _) → asked ≡ request.Decide u decision → (u == t) ≡ false) → fixes t asked ≡ false
        by_value (request.Decide u decision) is decides = decides u decision refl
        by_value (request.Resolve u) is decides = unresolved st u (none what.server st at) (ap (takes t st) (sym is) ∙ untaken)
        by_value other is decides = refl

        of : (same : Event) → event ≡ same → (step (fixed_of given) w event).done.served ≡ Some what → fixes t what.request.value ≡ false
        of (Begin i job) is done = absurd (none-some what (sym (becomes_none w i (λ agent. begin (fixed_of given) agent job) (actor_at w i)) ∙ ap (λ event. (step (fixed_of given) w event).done.served) (sym is) ∙ done))
        of (Forget i site) is done = absurd (none-some what (sym (becomes_none w i (λ agent. forget agent site) (actor_at w i)) ∙ ap (λ event. (step (fixed_of given) w event).done.served) (sym is) ∙ done))
        of (Lack i why) is done = absurd (none-some what (sym (lacks_none (fixed_of given) w i why (actor_at w i)) ∙ ap (λ event. (step (fixed_of given) w event).done.served) (sym is) ∙ done))
        of (Crash server) is done = ap (fixes t) (operates_it w server request.Crash (server_at w server) what (ap (λ event. (step (fixed_of given) w event).done.served) (sym is) ∙ done))
        of (Return server) is done = ap (fixes t) (operates_it w server request.Return (server_at w server) what (ap (λ event. (step (fixed_of given) w event).done.served) (sym is) ∙ done))
        of (Step other) is done = by (other == agent) refl
          where
            done' : (step (fixed_of given) w (Step other)).done.served ≡ Some what
            done' = ap (λ event. (step (fixed_of given) w event).done.served) (sym is) ∙ done

            asks : (actor : Actor) × (actor_at w other ≡ Some actor) × (next_of (fixed_of given) actor.agent ≡ Some (what.server, what.request.value))
            asks = step_asks (fixed_of given) w other (actor_at w other) what done'

            by : (b : Bool) → (other == agent) ≡ b → fixes t what.request.value ≡ false
            by false apart = by_value what.request.value refl (λ u decision value. ⊎_elim
                (λ self.
                let named : (u == self.task.t) ≡ true = ap (names self.task.t) (sym value) ∙ self.named in
                ap (λ u. u == t) (eqb-true u self.task.t named) ∙ other_number other asks.0 self.task.t asks.1 self.last apart)
                (λ sweeps. absurd (false≢true (ap may_sweep (sym value) ∙ sweeps.swept)))
                (agents_ask_for_themselves given accepted all other asks.0 what.server what.request.value asks.1 asks.2))
            by true same = by_value what.request.value refl (λ u decision value. absurd (false≢true (sym undecided ∙ ap is_decide value)))
              where
                at_agent : other ≡ agent
                at_agent = eqb-true other agent same

                took : OwnTook (fixed_of given) w agent here.actor here.there (step (fixed_of given) w (Step agent))
                took = own_took (fixed_of given) w agent here.actor here.there (ap is_some (ap (λ i. (step (fixed_of given) w (Step i)).done.served) (sym at_agent) ∙ done'))

                now : Works (step (fixed_of given) w (Step agent)).world agent t
                now = works (step (fixed_of given) w (Step agent)).world agent t (subst (λ event. IsAtWork (step (fixed_of given) w event).world agent t) (is ∙ ap Step at_agent) still)

                who : asks.0 ≡ here.actor
                who = same_Some asks.0 here.actor (sym asks.1 ∙ ap (actor_at w) at_agent ∙ here.there)

                same_asked : took.asked ≡ (what.server, what.request.value)
                same_asked = same_Some took.asked (what.server, what.request.value) (sym took.next ∙ ap (λ (actor : Actor). next_of (fixed_of given) actor.agent) (sym who) ∙ asks.2)

                open_now : IsOpen took.new.agent.doing
                open_now = subst (λ (actor : Actor). IsOpen actor.agent.doing) (same_Some now.actor took.new (sym now.there ∙ took.now)) now.is_open

                undecided : is_decide what.request.value ≡ false
                undecided =
                    ap (λ (asked : ℕ × Request). is_decide asked.1) (sym same_asked)
                    ∙ open_undecided (fixed_of given) here.actor.agent (Replied (reply_of took.st took.asked.1)) here.actor.agent.doing took.asked took.next
                    (subst (λ asked. IsOpen (take_in (fixed_of given) here.actor.agent (Replied (reply_of took.st took.asked.1)) here.actor.agent.doing asked).agent.doing)
                    took.next (subst (λ (agent : Agent). IsOpen agent.doing) took.took open_now))

    -- it stays unrecorded through an event, where its end is not fixed after it
    pub unrecorded_next : (i : ℕ) (new : State) → server_at (step (fixed_of given) w event).world i ≡ Some new → record_of new t ≡ None
    unrecorded_next i new now = ⊎_elim (λ same. none i new (ap (λ servers. slice_get servers i) (sym same) ∙ now)) of (event_serves (fixed_of given) w event)
      where
        of : Serves w (step (fixed_of given) w event) → record_of new t ≡ None
        of serves =
            let puts = puts_in w.servers serves.target serves.st (served serves.st serves.asked) serves.at in
            let there : slice_get (slice_set w.servers serves.target (served serves.st serves.asked)) i ≡ Some new = ap (λ servers. slice_get servers i) (sym serves.servers) ∙ now in
            ⊎_elim
            (λ (at : i ≡ serves.target).
            let is : served serves.st serves.asked ≡ new = same_Some (served serves.st serves.asked) new (sym puts.here ∙ ap (slice_get (slice_set w.servers serves.target (served serves.st serves.asked))) (sym at) ∙ there) in
            ap (λ (st : State). record_of st t) (sym is)
            ∙ after_same serves.st t serves.asked.value (λ up. fixes_none _ serves.st serves.done serves.at up)
            ∙ none serves.target serves.st serves.at)
            (λ apart. none i new (sym (puts.apart i apart) ∙ there))
            (same_or i serves.target)
