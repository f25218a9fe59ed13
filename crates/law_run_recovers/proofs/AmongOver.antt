-- Who asks in the name of a transaction that goes steadily: its agent, which began no more since; and once it has ended nobody.
use Rattle.law_run_recovers.proofs.Vocabulary.{◌≡◌, ⊎_elim, ℕ, ◌+◌, ◌<◌, true, false, List, ◌∷◌, ◌++◌, Option, Some, None, refl, sym, ap, subst, ◌∙◌, arith, cons_option, false≢true, eq-eqb, none-some, same_Some, Identity, Opening, Op, Has, has_from}
use Rattle.law_run_recovers.proofs.Vocabulary.{contains_from, Transaction, Agent, fixed_of, is_idle, next_in, begin, EndedJob, Served, Event, Begin, Step, Actor, World, becomes, step, actor_at, dones, outcomes, run, dones-append, outcomes-append}
use Rattle.law_run_recovers.proofs.Vocabulary.{ended, names, may_sweep, same_place, agents_ask_for_themselves, holds_of, has_append, append_has_right, agent_of, agent_at, world_after, EndsThen}
use Rattle.law_run_recovers.specs.Ends.{Ended}
use Rattle.law_run_recovers.proofs.Steady.{GoesSteadily}
use Rattle.law_run_recovers.proofs.Asker.{IsAsker, asker}
use Rattle.law_run_recovers.proofs.Keeps.{run_at}
use Rattle.law_run_recovers.proofs.Serves.{Told}
use Rattle.law_run_recovers.proofs.Sides.{names_one}
use Rattle.law_run_recovers.proofs.AmongCourse.{Course}
use Rattle.law_run_recovers.proofs.AmongEnds.{Over, small_at}
use Rattle.law_run_recovers.proofs.AmongBegin.{begun}

pub has_after : {X : Type 0} (found : Option X) (xs : List X) (x : X) → Has xs x → Has (cons_option found xs) x
has_after found xs x h3 = search arith

module _ (given : Opening) (events later : List Event) (agent t : ℕ) (caller : Identity) (site : ℕ) (ops : List Op) (actor : Actor) (goes : GoesSteadily given events later agent t caller site ops actor) where
  abbrev world_at : List Event → World
  world_at so_far = world_after given events agent caller site ops so_far

  abbrev all : List Event → List Event
  all so_far = events ++ Begin agent (Transaction caller site ops) ∷ so_far

  same_run : (so_far : List Event) → world_after given events agent caller site ops so_far ≡ run given (events ++ Begin agent (Transaction caller site ops) ∷ so_far)
  same_run = run_at given events later agent t caller site ops actor goes.can goes.there goes.begins

  small_own : agent < 64
  small_own = (holds_of given goes.can.accepted events).agents.small agent actor.agent (ap agent_of goes.there)

  -- the agent of its number that is over is idle, unless it began more since
  over_idle : (so_far : List Event) → Over given events later agent t caller site ops actor goes so_far → (here : Actor) → actor_at (world_after given events agent caller site ops so_far) agent ≡ Some here
      → here.agent.count ≡ actor.agent.count + 1 → here.agent.doing ≡ None
  over_idle so_far over here there last =
      let was = (holds_of given goes.can.accepted (all so_far)).over over.0 over.1 in
      let small_was = (holds_of given goes.can.accepted (all so_far)).agents.small over.0.agent was.agent was.at in
      let places = same_place over.0.count actor.agent.count over.0.agent agent (over.2 ∙ sym (begun given events later agent t caller site ops actor goes).0) small_was small_own in
      let same : was.agent ≡ here.agent = same_Some was.agent here.agent (sym was.at ∙ ap (agent_at (run given (all so_far))) places.1 ∙ ap (λ w. agent_at w agent) (sym (same_run so_far)) ∙ ap agent_of there) in
      let counts : was.agent.count ≡ here.agent.count = ap (λ (a : Agent). a.count) same in
      let place = places.0 in
      ap (λ (a : Agent). a.doing) (sym same) ∙ was.idle (omega (arith, counts, last, place))

  -- who runs has not ended
  pub course_not_over : (so_far : List Event) → Course given events later agent t caller site ops actor goes so_far → Over given events later agent t caller site ops actor goes so_far → ⊥
  course_not_over so_far c over = false≢true (sym c.busy ∙ ap is_idle (over_idle so_far over c.here c.there c.count))

  parted : ended given (events ++ Begin agent (Transaction caller site ops) ∷ later) ≡ ended given events ++ outcomes (dones (fixed_of given) (run given events) (Begin agent (Transaction caller site ops) ∷ later))
  parted = search (dones-append, outcomes-append, arith)

  pub ended_has : (job : EndedJob) → EndsThen given events later agent t caller site ops job → Has (ended given (events ++ Begin agent (Transaction caller site ops) ∷ later)) job
  ended_has job ends = search (parted, append_has_right, has_after, has_from, arith)

  -- its job is its agent's
  pub ended_own : (job : EndedJob) → EndsThen given events later agent t caller site ops job → job.agent ≡ agent
  ended_own job ends =
      let was = (holds_of given goes.can.accepted (all later)).over job (ended_has job ends) in
      let small = (holds_of given goes.can.accepted (all later)).agents.small job.agent was.agent was.at in
      (same_place job.count actor.agent.count job.agent agent (ends.of_it ∙ sym (begun given events later agent t caller site ops actor goes).0) small small_own).1

  -- what ended of its number ended since its begin
  pub over_then : Over given events later agent t caller site ops actor goes later → Ended given events later agent t caller site ops
  over_then over = ⊎_elim before since (has_append (ended given events) (outcomes (dones (fixed_of given) (run given events) (Begin agent (Transaction caller site ops) ∷ later))) over.0 (subst (λ list. Has list over.0) parted over.1))
    where
      before : Has (ended given events) over.0 → Ended given events later agent t caller site ops
      before has =
          let was = (holds_of given goes.can.accepted events).over over.0 has in
          let small = (holds_of given goes.can.accepted events).agents.small over.0.agent was.agent was.at in
          let places = same_place over.0.count actor.agent.count over.0.agent agent (over.2 ∙ sym (begun given events later agent t caller site ops actor goes).0) small small_own in
          let same : was.agent ≡ actor.agent = same_Some was.agent actor.agent (sym was.at ∙ ap (agent_at (run given events)) places.1 ∙ ap agent_of goes.there) in
          let counts : was.agent.count ≡ actor.agent.count = ap (λ (a : Agent). a.count) same in
          let less = was.before in
          let place = places.0 in
          absurd (omega (arith, counts, less, place))

      since : Has (outcomes (dones (fixed_of given) (run given events) (Begin agent (Transaction caller site ops) ∷ later))) over.0 → Ended given events later agent t caller site ops
      since has = record {
        job = over.0;
        ends = search (contains_from, none, arith);
      }
        where
          none : (step (fixed_of given) (run given events) (Begin agent (Transaction caller site ops))).done.outcome ≡ None
          none = ap (λ found. (becomes (run given events) agent (λ a. begin (fixed_of given) a (Transaction caller site ops)) found).done.outcome) goes.there

  pub ended_over : (job : EndedJob) → EndsThen given events later agent t caller site ops job → Over given events later agent t caller site ops actor goes later
  ended_over job ends = (job, ended_has job ends, ends.of_it)

  -- ---- who asks in its name

  module _ (so_far : List Event) (event : Event) (what : Served) (is : (step (fixed_of given) (world_after given events agent caller site ops so_far) event).done.served ≡ Some what) (named : names t what.request.value ≡ true)
      (own : may_sweep what.request.value ≡ false) where
    asked_by : IsAsker (fixed_of given) (world_after given events agent caller site ops so_far) event what
    asked_by = asker (fixed_of given) (world_at so_far) t event what is named

    -- its agent, which began no more since
    pub record IsIts : Type 0 where
      pub by : IsAsker (fixed_of given) (world_after given events agent caller site ops so_far) event what
      pub who : by.agent ≡ agent
      pub last : by.actor.agent.count ≡ actor.agent.count + 1

    pub is_its : IsIts
    is_its =
        let by = asked_by in
        ⊎_elim
        (λ self.
        let last = self.last in
        let numbered = (begun given events later agent t caller site ops actor goes).0 in
        let same : t ≡ self.task.t = names_one t self.task.t what.request.value named self.named in
        let small = small_at given events later agent t caller site ops actor goes so_far by.agent by.actor.agent (ap agent_of by.there) in
        let places = same_place by.actor.agent.count (actor.agent.count + 1) by.agent agent (omega (arith, last, same, numbered)) small small_own in
        record { by = by; who = places.1; last = places.0 })
        (λ sweeps. absurd (false≢true (sym own ∙ sweeps.swept)))
        (agents_ask_for_themselves given goes.can.accepted (all so_far) by.agent by.actor what.server what.request.value (ap (λ w. actor_at w by.agent) (sym (same_run so_far)) ∙ by.there) by.next)

    -- nobody does once it has ended
    pub asks_no_more : Over given events later agent t caller site ops actor goes so_far → ⊥
    asks_no_more over =
        let its = is_its in
        let idle = over_idle so_far over its.by.actor (ap (actor_at (world_at so_far)) (sym its.who) ∙ its.by.there) its.last in
        none-some (what.server, what.request.value) (sym (ap (next_in (fixed_of given)) idle) ∙ its.by.next)

  -- who is told of a lock asked for it so
  module _ (so_far : List Event) (event : Event) (server : ℕ) (told : Told (fixed_of given) (world_after given events agent caller site ops so_far) event t server) where
    told_named : names t told.what.request.value ≡ true
    told_named = ap (names t) told.told.poll ∙ eq-eqb t t refl

    told_own : may_sweep told.what.request.value ≡ false
    told_own = ap may_sweep told.told.poll

    pub never_others : (event ≡ Step agent → ⊥) → ⊥
    never_others apart =
        let its = is_its so_far event told.what told.served told_named told_own in
        apart (its.by.is ∙ ap Step its.who)

    pub never_over : Over given events later agent t caller site ops actor goes so_far → ⊥
    never_over over = asks_no_more so_far event told.what told.served told_named told_own over
