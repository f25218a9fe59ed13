-- A transaction that nobody robs: until its end is fixed the locks that it was told of stand, whatever others do.
use Rattle.law_run_recovers.proofs.Vocabulary.{◌≡◌, ◌⊎◌, inl, inr, ⊎_elim, Bool, true, false, List, [], ◌∷◌, ◌++◌, append_assoc, Option, Some, refl, sym, ap, subst, ◌∙◌, arith, ℕ, ◌==◌, ◌&&◌, ◌||◌, not, eqb-true, nat_tests, none-some, same_Some}
use Rattle.law_run_recovers.proofs.Vocabulary.{Identity, Opening, IsAccepted, Op, Request, State, Transaction, Suites, Fixed, Task, Phase, Doing, Running, request_in, fixed_of, begin, forget, next_in, next_of, Served, Event, Begin, Step, Crash}
use Rattle.law_run_recovers.proofs.Vocabulary.{Return, Forget, Lack, Actor, World, server_at, actor_at, run, names, may_sweep, agents_ask_for_themselves, machine_of, machine_one, CanBe, holds_after, begins_job, IsMine, can_front, Stands, releases}
use Rattle.law_run_recovers.proofs.Vocabulary.{doing_of, is_resolve, never_resolves, Carried, carried_by, runs, is_telling, world_after, takes, up_and, of_up, robs, hinders_itself, drops, bereaves}
use Rattle.law_run_recovers.proofs.Vocabulary.{begun, beginning, all_keep}
use Rattle.law_run_machine.proofs.Following.{event_comes}
use Rattle.law_headline.proofs.Stood.{keeps_later}
use Rattle.run_core.specs.Worlds as worlds
use Rattle.law_run_alone.proofs.Untold.{begun_stands, started_untold}
use Rattle.rep_core.specs.declared.request.Request.TheVariants as request
use Rattle.law_suite_machine.specs.Machine as machine
use Rattle.law_run_alone.proofs.Holding as holding
use Rattle.law_run_recovers.proofs.Keeps.{IsAtWork, Works, works, step_asks, operates_it, becomes_none, lacks_none, run_at, at_work_before}
use Rattle.law_run_recovers.proofs.Still.{IsOpen, IsOpenPhase}
use Rattle.law_run_recovers.proofs.Untaken.{TakesNothing, untaken_stands}
use Rattle.law_run_recovers.proofs.Picks.{along}

-- ---- what is asked by agents

-- until its end is fixed a transaction asks for nothing that takes a lock away
open_releases : (fixed : Fixed) (task : Task) (suites : Suites) (phase : Phase) (server : ℕ) (asked : Request) → request_in fixed task suites phase ≡ Some (server, asked) → IsOpenPhase phase → releases asked ≡ false
open_releases fixed task suites phase server asked h6 h7 = search arith

module _ (t : ℕ) (st : State) where
  -- what takes no lock away and resolves nothing takes nothing
  takes_none : (asked : Request) → releases asked ≡ false → is_resolve asked ≡ false → (takes t st asked ≡ false) × (drops t st asked ≡ false)
  takes_none asked h1 h2 = search arith

  -- no agent asks a server to crash
  drops_none : (u : ℕ) (asked : Request) → (names u asked ≡ true) ⊎ (may_sweep asked ≡ true) → drops t st asked ≡ false
  drops_none u asked h2 = search arith

-- ---- one event

robbed : (a c d e h k : Bool) → a ≡ false → c ≡ false → d ≡ true → (h || ((not a && not c && (d && e)) || k)) ≡ false → e ≡ false
robbed a c d e h k apart told up calm = grind (arith, nat_tests)

bereft : (c d e : Bool) → c ≡ false → d ≡ true → (not c && (d && e)) ≡ false → e ≡ false
bereft c d e told up calm = grind (arith, nat_tests)

module _ (given : Opening) (accepted : IsAccepted given) (all : List Event) (agent t : ℕ) (at_work : IsAtWork (run given all) agent t) where
  abbrev w : World
  w = run given all

  abbrev Spared : Event → Type 0
  Spared event = (hinders_itself given agent w event || (robs given agent t w event || bereaves given agent t w event)) ≡ false

  of_value : (event : Event) (asked : Request) (what : Served) (st : State) → what.request.value ≡ asked → (takes t st asked ≡ false) × (drops t st asked ≡ false)
      → (takes t st what.request.value ≡ false) × (drops t st what.request.value ≡ false)
  of_value event asked what st is none = subst (λ asked. (takes t st asked ≡ false) × (drops t st asked ≡ false)) (sym is) none

  pub takes_nothing : (event : Event) → Spared event → TakesNothing given t w event
  takes_nothing (Begin i job) calm what st served at up = absurd (none-some what (sym (becomes_none w i (λ agent. begin (fixed_of given) agent job) (actor_at w i)) ∙ served))
  takes_nothing (Forget i site) calm what st served at up = absurd (none-some what (sym (becomes_none w i (λ agent. forget agent site) (actor_at w i)) ∙ served))
  takes_nothing (Lack i why) calm what st served at up = absurd (none-some what (sym (lacks_none (fixed_of given) w i why (actor_at w i)) ∙ served))
  takes_nothing (Return server) calm what st served at up = of_value (Return server) request.Return what st (operates_it w server request.Return (server_at w server) what served) (refl, refl)
  takes_nothing (Crash server) calm what st served at up = search (operates_it, of_value, bereft, arith)
  takes_nothing (Step other) calm what st served at up = of (other == agent) refl
    where
      asks : (actor : Actor) × (actor_at w other ≡ Some actor) × (next_of (fixed_of given) actor.agent ≡ Some (what.server, what.request.value))
      asks = step_asks (fixed_of given) w other (actor_at w other) what served

      here : Works w agent t
      here = works w agent t at_work

      own : (doing : Option Doing) → IsOpen doing → next_in (fixed_of given) doing ≡ Some (what.server, what.request.value) → (takes t st what.request.value ≡ false) × (drops t st what.request.value ≡ false)
      own (Some (Running txn_run)) open' next =
          takes_none t st what.request.value (open_releases (fixed_of given) txn_run.task txn_run.suites txn_run.phase what.server what.request.value next open')
          (never_resolves (fixed_of given) txn_run.task txn_run.suites txn_run.phase what.server what.request.value next)
      own other open' next = absurd open'

      of : (b : Bool) → (other == agent) ≡ b → (takes t st what.request.value ≡ false) × (drops t st what.request.value ≡ false)
      of true same =
          let who : asks.0 ≡ here.actor = same_Some asks.0 here.actor (sym asks.1 ∙ ap (actor_at w) (eqb-true other agent same) ∙ here.there) in
          own asks.0.agent.doing (subst (λ (actor : Actor). IsOpen actor.agent.doing) (sym who) here.is_open) asks.2
      of false apart = (
        robbed (other == agent) (is_telling w agent) st.up (takes t st what.request.value) (hinders_itself given agent w (Step other)) false apart at_work.untold up
            (sym (ap (λ found. hinders_itself given agent w (Step other) || ((not (other == agent) && not (is_telling w agent) && found) || false))
            (ap (of_up (takes t) w) served ∙ ap (up_and (takes t) what.request.value) at)) ∙ calm),
        ⊎_elim (λ self. drops_none t st self.task.t what.request.value (inl self.named)) (λ sweeps. drops_none t st 0 what.request.value (inr sweeps.swept))
            (agents_ask_for_themselves given accepted all other asks.0 what.server what.request.value asks.1 asks.2),
      )

-- ---- all along

early : (w : machine.World) (t : ℕ) (doing : Option Doing) → IsOpen doing → holding.DoingStands w t doing → Stands w t
early w t doing h3 h4 = search arith

pub mine_where : (t : ℕ) (doing : Option Doing) → runs t doing ≡ true → IsMine t doing
mine_where t doing h2 = search arith

module _ (given : Opening) (events later : List Event) (agent t : ℕ) (caller : Identity) (site : ℕ) (ops : List Op) (actor : Actor)
    (can : CanBe given (events ++ Begin agent (Transaction caller site ops) ∷ later)) (there : actor_at (run given events) agent ≡ Some actor)
    (begins_so : begins_job given (run given events) (Begin agent (Transaction caller site ops)) ≡ Some (t, Transaction caller site ops))
    (spares : (so_far rest : List Event) (event : Event) → later ≡ so_far ++ event ∷ rest → IsAtWork (world_after given events agent caller site ops so_far) agent t →
    let w = world_after given events agent caller site ops so_far in (hinders_itself given agent w event || (robs given agent t w event || bereaves given agent t w event)) ≡ false) where
  abbrev world_at : List Event → World
  world_at so_far = world_after given events agent caller site ops so_far

  -- all events so far
  abbrev pub all_of : List Event → List Event
  all_of so_far = events ++ Begin agent (Transaction caller site ops) ∷ so_far

  is_run : (so_far : List Event) → world_at so_far ≡ run given (all_of so_far)
  is_run = run_at given events later agent t caller site ops actor can there begins_so

  can_then : (so_far rest : List Event) → later ≡ so_far ++ rest → CanBe given (all_of so_far ++ rest)
  can_then so_far rest is = subst (CanBe given) (ap (λ later. events ++ Begin agent (Transaction caller site ops) ∷ later) is ∙ sym (append_assoc events (Begin agent (Transaction caller site ops) ∷ so_far) rest)) can

  -- as it begins it was told of nothing
  stands_first : IsAtWork (world_at []) agent t → (z : ℕ) → Stands (machine_of given z (all_of [])) t
  stands_first at z =
      let here = works (world_at []) agent t at in
      let carried : Carried given (λ z. machine_of given z (all_of [])) (world_at []) later =
      subst (λ w. Carried given (λ z. machine_of given z (all_of [])) w later) (sym (is_run [])) (carried_by given (all_of []) later (can_then [] later refl)) in
      early (machine_of given z (all_of [])) t here.actor.agent.doing here.is_open
      (begun_stands given (λ z. machine_of given z (all_of [])) (world_at []) later t agent (subst (IsMine t) (sym (ap doing_of here.there)) (mine_where t here.actor.agent.doing here.runs_it)) carried
      (started_untold given (run given events) agent t caller site ops (actor_at (run given events) agent) refl begins_so) z here.actor here.there)

  pub stands_next : (so_far rest : List Event) (event : Event) → later ≡ so_far ++ event ∷ rest → IsAtWork (world_at so_far) agent t → (z : ℕ)
      → Stands (machine_of given z (all_of so_far)) t → Stands (machine_of given z (all_of (so_far ++ event ∷ []))) t
  stands_next so_far rest event is at z stands =
      let can' = can_front given (all_of so_far) (event ∷ rest) (can_then so_far (event ∷ rest) is) in
      let at' = subst (λ w. IsAtWork w agent t) (is_run so_far) at in
      let calm = subst (λ w. (hinders_itself given agent w event || (robs given agent t w event || bereaves given agent t w event)) ≡ false) (is_run so_far) (spares so_far rest event is at) in
      let now = holds_after given (all_of so_far) can' z in
      let keeps = keeps_later given z (begun (beginning z given)) (worlds.opening given) (all_of so_far) (event ∷ rest) ((all_keep given (all_of so_far ++ event ∷ rest) (can_then so_far (event ∷ rest) is)).keep z) in
      let may = (event_comes given z (machine_of given z (all_of so_far)) (run given (all_of so_far)) now.inv now.shows now.all event keeps.0).obeys in
      subst (λ all. Stands (machine_of given z all) t) (append_assoc events (Begin agent (Transaction caller site ops) ∷ so_far) (event ∷ []))
      (subst (λ w. Stands w t) (sym (machine_one given z (all_of so_far) event))
      (untaken_stands given z t (machine_of given z (all_of so_far)) (run given (all_of so_far)) now.inv now.shows stands event (takes_nothing given can.accepted (all_of so_far) agent t at' event calm) may))

  -- So at each moment at which it is at work its locks stand, in the machine of each suite.
  pub locks_stand : (so_far rest : List Event) → later ≡ so_far ++ rest → IsAtWork (world_at so_far) agent t → (z : ℕ) → Stands (machine_of given z (all_of so_far)) t
  locks_stand = along later (λ so_far. IsAtWork (world_at so_far) agent t → (z : ℕ) → Stands (machine_of given z (all_of so_far)) t)
      (λ so_far rest event is stand at z.
      let now = at_work_before given events later agent t caller site ops actor can there begins_so so_far (event ∷ []) at in stands_next so_far rest event is now z (stand now z))
      stands_first
