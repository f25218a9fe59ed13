-- A transaction that goes steadily ends as the votes say that are open: all along.
use Rattle.law_run_recovers.proofs.Vocabulary.{◌≡◌, ◌⊎◌, inl, inr, ⊎_elim, ℕ, ◌<◌, Bool, true, false, List, [], ◌∷◌, ◌++◌, append_assoc, Option, Some, None, is_some, refl, sym, ap, subst, ◌∙◌, arith, Contains, cons_option, none-some, same_Some}
use Rattle.law_run_recovers.proofs.Vocabulary.{Identity, Opening, Op, Has, has_from, Transaction, Agent, fixed_of, next_in, Event, Begin, Step, EndedJob, Actor, World, Stepped, step, dones, outcomes, run, dones-append, outcomes-append, ended}
use Rattle.law_run_recovers.proofs.Vocabulary.{number_of, same_place, holds_of, append_has_left, append_has_right, agent_of, agent_at, begun_world, hinders_itself, world_after}
use Rattle.law_run_recovers.proofs.Steady.{GoesSteadily}
use Rattle.law_run_recovers.proofs.Apart.{event_apart, who_ends}
use Rattle.law_run_recovers.proofs.Keeps.{run_at}
use Rattle.law_run_recovers.proofs.NearGround.{number}
use Rattle.law_run_recovers.proofs.StepsServed.{OwnTook, own_took}
use Rattle.law_run_recovers.proofs.AmongCourse.{Course, Right, runs_it, next_is, apart_on}
use Rattle.law_run_recovers.proofs.AmongBegin.{begun, first_course}
use Rattle.law_run_recovers.proofs.AmongStep.{ends_right, own_on}
use Rattle.law_run_recovers.proofs.AmongLacks.{lack_on, lack_right, quiet_on}
use Rattle.law_run_recovers.proofs.Lacking.{hindered}

module _ (given : Opening) (events later : List Event) (agent t : ℕ) (caller : Identity) (site : ℕ) (ops : List Op) (actor : Actor) (goes : GoesSteadily given events later agent t caller site ops actor) where
  abbrev world_at : List Event → World
  world_at so_far = world_after given events agent caller site ops so_far

  -- ---- all along

  -- its job has ended
  abbrev pub Over : List Event → Type 0
  Over so_far = (one : EndedJob) × Has (ended given (events ++ Begin agent (Transaction caller site ops) ∷ so_far)) one × (number_of one ≡ t)

  ended_more : (so_far : List Event) (event : Event) → ended given (events ++ Begin agent (Transaction caller site ops) ∷ (so_far ++ event ∷ []))
      ≡ ended given (events ++ Begin agent (Transaction caller site ops) ∷ so_far) ++ cons_option (step (fixed_of given) (world_after given events agent caller site ops so_far) event).done.outcome []
  ended_more so_far event = search (append_assoc, dones-append, outcomes-append, run_at, arith)

  pub over_on : (so_far : List Event) (event : Event) → Over so_far → Over (so_far ++ event ∷ [])
  over_on so_far event over = search (ended_more, append_has_left, arith)

  pub over_now : (so_far : List Event) (event : Event) (one : EndedJob) → (step (fixed_of given) (world_after given events agent caller site ops so_far) event).done.outcome ≡ Some one → number_of one ≡ t → Over (so_far ++ event ∷ [])
  over_now so_far event one is number = search (ended_more, append_has_right, arith)

  pub small_at : (so_far : List Event) (i : ℕ) (a : Agent) → agent_at (world_after given events agent caller site ops so_far) i ≡ Some a → i < 64
  small_at so_far i a at =
      (holds_of given goes.can.accepted (events ++ Begin agent (Transaction caller site ops) ∷ so_far)).agents.small i a
      (ap (λ w. agent_at w i) (sym (run_at given events later agent t caller site ops actor goes.can goes.there goes.begins so_far)) ∙ at)

  -- none of its number ends again
  never_again : (so_far : List Event) (event : Event) → Over so_far → (one : EndedJob) → (step (fixed_of given) (world_after given events agent caller site ops so_far) event).done.outcome ≡ Some one → number_of one ≡ t → ⊥
  never_again so_far event over one is number =
      let run_so = run_at given events later agent t caller site ops actor goes.can goes.there goes.begins so_far in
      let was = (holds_of given goes.can.accepted (events ++ Begin agent (Transaction caller site ops) ∷ so_far)).over over.0 over.1 in
      let now = who_ends (fixed_of given) (world_at so_far) one event is in
      let small_was = (holds_of given goes.can.accepted (events ++ Begin agent (Transaction caller site ops) ∷ so_far)).agents.small over.0.agent was.agent was.at in
      let small_now = small_at so_far one.agent now.actor.agent (ap agent_of now.there) in
      let places = same_place over.0.count one.count over.0.agent one.agent (over.2 ∙ sym number) small_was small_now in
      let same : was.agent ≡ now.actor.agent = same_Some was.agent now.actor.agent
      (sym was.at ∙ ap (agent_at (run given (events ++ Begin agent (Transaction caller site ops) ∷ so_far))) places.1 ∙ ap (λ w. agent_at w one.agent) (sym run_so) ∙ ap agent_of now.there) in
      let counts : was.agent.count ≡ now.actor.agent.count = ap (λ (a : Agent). a.count) same in
      let before = was.before in
      let count = now.count in
      let place = places.0 in
      let idle = was.idle (omega (arith, counts, before, count, place)) in
      none-some now.asked (sym (ap (next_in (fixed_of given)) (sym (ap (λ (a : Agent). a.doing) same) ∙ idle)) ∙ now.next)

  -- while it runs another's event ends no job of its number
  not_ended : (so_far rest : List Event) (event : Event) → later ≡ so_far ++ event ∷ rest → (c : Course given events later agent t caller site ops actor goes so_far)
      → ((one : EndedJob) → (step (fixed_of given) (world_after given events agent caller site ops so_far) event).done.outcome ≡ Some one → one.agent ≡ agent → ⊥)
      → (one : EndedJob) → (step (fixed_of given) (world_after given events agent caller site ops so_far) event).done.outcome ≡ Some one → number_of one ≡ t → ⊥
  not_ended so_far rest event split c other one is number =
      let now = who_ends (fixed_of given) (world_at so_far) one event is in
      let small_now = small_at so_far one.agent now.actor.agent (ap agent_of now.there) in
      let small_own = small_at so_far agent c.here.agent (ap agent_of c.there) in
      other one is (same_place one.count actor.agent.count one.agent agent (number ∙ sym (begun given events later agent t caller site ops actor goes).0) small_now small_own).1

  -- in which step of its own it ended
  pub record EndsWhere (one : EndedJob) : Type 0 where
    pub so_far : List Event
    pub rest : List Event
    pub split : later ≡ so_far ++ Step agent ∷ rest
    pub course : Course given events later agent t caller site ops actor goes so_far
    pub took : OwnTook (fixed_of given) (world_after given events agent caller site ops so_far) agent course.here course.there (step (fixed_of given) (world_after given events agent caller site ops so_far) (Step agent))
    pub is : (step (fixed_of given) (world_after given events agent caller site ops so_far) (Step agent)).done.outcome ≡ Some one

  -- or in which event that says that its request was not served, once its end was fixed
  pub record LacksWhere (one : EndedJob) : Type 0 where
    pub so_far : List Event
    pub rest : List Event
    pub event : Event
    pub split : later ≡ so_far ++ event ∷ rest
    pub course : Course given events later agent t caller site ops actor goes so_far
    pub hinders : hinders_itself given agent (world_after given events agent caller site ops so_far) event ≡ true
    pub right : Right given events later agent t caller site ops actor goes one.ending

  abbrev pub Where : EndedJob → Type 0
  Where one = EndsWhere one ⊎ LacksWhere one

  -- ---- an event while it runs

  module _ (so_far rest : List Event) (event : Event) (split : later ≡ so_far ++ event ∷ rest) (c : Course given events later agent t caller site ops actor goes so_far) where
    own_split : event ≡ Step agent → later ≡ so_far ++ Step agent ∷ rest
    own_split is = split ∙ ap (λ event. so_far ++ event ∷ rest) is

    own_took_so : event ≡ Step agent → is_some (step (fixed_of given) (world_after given events agent caller site ops so_far) event).done.served ≡ true
        → OwnTook (fixed_of given) (world_after given events agent caller site ops so_far) agent c.here c.there (step (fixed_of given) (world_after given events agent caller site ops so_far) (Step agent))
    own_took_so is served = search (own_took, arith)

    -- it goes on, or has ended
    pub state_on : Course given events later agent t caller site ops actor goes (so_far ++ event ∷ []) ⊎ Over (so_far ++ event ∷ [])
    state_on = of (hinders_itself given agent (world_at so_far) event) refl
      where
        own : event ≡ Step agent → is_some (step (fixed_of given) (world_after given events agent caller site ops so_far) event).done.served ≡ true
            → Course given events later agent t caller site ops actor goes (so_far ++ event ∷ []) ⊎ Over (so_far ++ event ∷ [])
        own is served =
            subst (λ event. Course given events later agent t caller site ops actor goes (so_far ++ event ∷ []) ⊎ Over (so_far ++ event ∷ [])) (sym is)
            (⊎_elim (λ on. inl on.0) (λ ended. inr (over_now so_far (Step agent) ended.0 ended.1 ended.2))
            (own_on given events later agent t caller site ops actor goes so_far rest (own_split is) c (runs_it given events later agent t caller site ops actor goes so_far c) (own_took_so is served)))

        of : (b : Bool) → hinders_itself given agent (world_after given events agent caller site ops so_far) event ≡ b
            → Course given events later agent t caller site ops actor goes (so_far ++ event ∷ []) ⊎ Over (so_far ++ event ∷ [])
        of false calm = ⊎_elim
            (λ apart. inl (apart_on given events later agent t caller site ops actor goes so_far rest event split c apart.0 apart.1).0)
            (λ own'. own own'.0 own'.1)
            (event_apart given agent (world_at so_far) c.here c.there c.busy event calm)
        of true hinders = ⊎_elim
            (λ lacks. ⊎_elim (λ on. inl on.0) (λ ended. inr (over_now so_far event ended.0 ended.1 ended.2)) (lack_on given events later agent t caller site ops actor goes so_far rest event split c hinders lacks))
            (λ nothing. inl (quiet_on given events later agent t caller site ops actor goes so_far rest event split c hinders nothing).0)
            (hindered given agent (world_at so_far) c.here c.there event hinders)

    -- where it ended in it
    where_now : (one : EndedJob) → (step (fixed_of given) (world_after given events agent caller site ops so_far) event).done.outcome ≡ Some one → number_of one ≡ t → Where one
    where_now one is numbered = of (hinders_itself given agent (world_at so_far) event) refl
      where
        of : (b : Bool) → hinders_itself given agent (world_after given events agent caller site ops so_far) event ≡ b → Where one
        of false calm = ⊎_elim
            (λ apart. absurd (not_ended so_far rest event split c apart.0.other one is numbered))
            (λ own. inl (record {
              so_far = so_far;
              rest = rest;
              split = own_split own.0;
              course = c;
              took = own_took_so own.0 own.1;
              is = ap (λ event. (step (fixed_of given) (world_after given events agent caller site ops so_far) event).done.outcome) (sym own.0) ∙ is;
            }))
            (event_apart given agent (world_at so_far) c.here c.there c.busy event calm)
        of true hinders = ⊎_elim
            (λ lacks. inr (record {
              so_far = so_far;
              rest = rest;
              event = event;
              split = split;
              course = c;
              hinders = hinders;
              right = lack_right given events later agent t caller site ops actor goes so_far rest event split c hinders lacks one is;
            }))
            (λ nothing. absurd (none-some one (sym (ap (λ (stepped : Stepped). stepped.done.outcome) nothing.is) ∙ is)))
            (hindered given agent (world_at so_far) c.here c.there event hinders)

  -- ---- all along

  ends_in : (rest so_far : List Event) → later ≡ so_far ++ rest → Course given events later agent t caller site ops actor goes so_far ⊎ Over so_far → (one : EndedJob)
      → Has (outcomes (dones (fixed_of given) (world_after given events agent caller site ops so_far) rest)) one → number_of one ≡ t → Where one
  ends_in [] so_far split state one has numbered = absurd has
  ends_in (event ∷ rest) so_far split state one has numbered =
      ⊎_elim
      (λ c.
      goes_later (λ is. where_now so_far rest event split c one is numbered)
      (λ has. ends_in rest (so_far ++ event ∷ []) (split ∙ sym (append_assoc so_far (event ∷ []) rest)) (state_on so_far rest event split c) one has numbered) (step (fixed_of given) (world_at so_far) event).done.outcome refl has)
      (λ over.
      goes_later (λ is. absurd (never_again so_far event over one is numbered))
      (λ has. ends_in rest (so_far ++ event ∷ []) (split ∙ sym (append_assoc so_far (event ∷ []) rest)) (inr (over_on so_far event over)) one has numbered) (step (fixed_of given) (world_at so_far) event).done.outcome refl has)
      state
    where
      goes_later : ((step (fixed_of given) (world_after given events agent caller site ops so_far) event).done.outcome ≡ Some one → Where one)
          → (Has (outcomes (dones (fixed_of given) (world_after given events agent caller site ops (so_far ++ event ∷ [])) rest)) one → Where one)
          → (found : Option EndedJob) → (step (fixed_of given) (world_after given events agent caller site ops so_far) event).done.outcome ≡ found
          → Has (cons_option found (outcomes (dones (fixed_of given) (step (fixed_of given) (world_after given events agent caller site ops so_far) event).world rest))) one → Where one
      goes_later here go None is has = go (subst (λ w. Has (outcomes (dones (fixed_of given) w rest)) one) (sym (next_is given events later agent t caller site ops actor goes so_far event)) has)
      goes_later here go (Some other) is has =
          ⊎_elim (λ same. here (is ∙ ap (λ o. Some o) same)) (λ has. go (subst (λ w. Has (outcomes (dones (fixed_of given) w rest)) one) (sym (next_is given events later agent t caller site ops actor goes so_far event)) has)) has

  pub ends_where : (one : EndedJob) → Contains (outcomes (dones (fixed_of given) (begun_world given events agent caller site ops) later)) one → number_of one ≡ t → Where one
  ends_where one there number =
      ends_in later [] refl (inl (first_course given events later agent t caller site ops actor goes)) one (has_from (outcomes (dones (fixed_of given) (begun_world given events agent caller site ops) later)) one there) number

  -- it ends so
  pub among_ends : (one : EndedJob) → Contains (outcomes (dones (fixed_of given) (begun_world given events agent caller site ops) later)) one → number_of one ≡ t → Right given events later agent t caller site ops actor goes one.ending
  among_ends one there number = ⊎_elim
      (λ e. ends_right given events later agent t caller site ops actor goes e.so_far e.rest e.split e.course (runs_it given events later agent t caller site ops actor goes e.so_far e.course) e.took one e.is)
      (λ l. l.right)
      (ends_where one there number)
