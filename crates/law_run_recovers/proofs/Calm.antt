-- Sweeps decide nothing, and change nothing that is in effect.
use Rattle.law_run_recovers.proofs.Vocabulary.{◌≡◌, ℕ, ◌+◌, Bool, true, false, List, [], ◌∷◌, ◌++◌, append-nil, Option, Some, None, is_some, refl, sym, ap, subst, ◌∙◌, ◌==◌, ◌&&◌, not, nat_lt, slice_set, arith, false≢true, and_parts, not-true}
use Rattle.law_run_recovers.proofs.Vocabulary.{none-some, Opening, Sweep, Fixed, SweepRun, Doing, Running, RunningSweep, After, fixed_of, next_in, left, Event, Begin, Step, Actor, World, Stepped, actor_at, has_no_job, asks}
use Rattle.law_run_recovers.proofs.Vocabulary.{steps_once, step, after, decided, decided_by, task_of, task_at, task_in, puts_in, begins_job, with_job, no_task, hinders, unhindered_from, sweeps, goes_round, Always, SweepsKeepEffectsAt}
use Rattle.law_run_machine.specs.Machines.{events_of}
use Rattle.law_runs.proofs.Moves.{operator_asks}
use Rattle.run_core.specs.declared.event.Event.TheVariants.{Crash, Return}
use Rattle.law_suite_machine.specs.Machine as machine
use Rattle.law_run_recovers.proofs.Aside.{Aside, event_aside}
use Rattle.law_run_recovers.proofs.OwnStep.{own_step, then_does}
use Rattle.law_run_recovers.proofs.Quiet.{AllQuiet, all_both, quiet_event, Calm, effects_stay, decisions_stay}

-- ---- who has no transaction decides nothing

no_task_left : (then : After SweepRun) → task_of (left RunningSweep then) ≡ None
no_task_left then = search arith

module _ (given : Opening) (agent : ℕ) where
  abbrev fixed : Fixed
  fixed = fixed_of given

  abbrev pub HasNoTask : World → Type 0
  HasNoTask w = task_at (actor_at w agent) ≡ None

  -- ---- one event

  -- it makes a step, or one that is idle does
  stepper : (w : World) (other : ℕ) (served : Bool) (found : Option Actor) → actor_at w other ≡ found → (not (has_no_job found) && not ((other == agent) && served)) ≡ false → HasNoTask w → task_at found ≡ None
  stepper w other served found h4 h5 h6 = search arith

  none_in : (w : World) (event : Event) → hinders given agent w event ≡ false → HasNoTask w → task_in w event ≡ None
  none_in w event h2 h3 = search (stepper, arith)

  asks_none : (w : World) (event : Event) → hinders given agent w event ≡ false → operator_asks event ≡ None
  asks_none w (Crash server) calm = absurd (false≢true (sym calm))
  asks_none w (Return server) calm = absurd (false≢true (sym calm))
  asks_none w other calm = refl

  decides_none : (w : World) (event : Event) → task_in w event ≡ None → decided fixed w event ≡ None
  decides_none w event none = ap (λ task. decided_by w task (step fixed w event).done.served) none ∙ no_task w (step fixed w event).done.served

  -- its own step leaves it without one
  own_none : (w : World) (found : Option Actor) → actor_at w agent ≡ found → task_at found ≡ None → is_some (step fixed w (Step agent)).done.served ≡ true → HasNoTask (step fixed w (Step agent)).world
  own_none w None is none serves = absurd (false≢true (sym (ap (λ found. is_some (steps_once fixed w agent found).done.served) is) ∙ serves))
  own_none w (Some actor) is none serves = of actor.agent.doing refl
    where
      of : (doing : Option Doing) → actor.agent.doing ≡ doing → HasNoTask (step fixed w (Step agent)).world
      of None idle = absurd (false≢true (sym (ap (λ found. is_some (steps_once fixed w agent found).done.served) is ∙ ap (λ doing. is_some (asks fixed w agent actor (next_in fixed doing)).done.served) idle) ∙ serves))
      of (Some (Running txn_run)) busy = absurd (none-some txn_run.task (sym none ∙ ap task_of busy))
      of (Some (RunningSweep sweep_run)) busy =
          let went = own_step fixed w agent actor sweep_run is busy serves in
          ap task_at went.here ∙ ap task_of went.doing ∙ no_task_left (then_does fixed w agent actor sweep_run went.st)

  aside_none : (w : World) (stepped : Stepped) → Aside agent w stepped → HasNoTask w → HasNoTask stepped.world
  aside_none w stepped aside none = ap task_at aside.actor ∙ none

  own_event : (w : World) (event : Event) → HasNoTask w → event ≡ Step agent → is_some (step fixed w event).done.served ≡ true → HasNoTask (step fixed w event).world
  own_event w event none own = subst (λ event. is_some (step fixed w event).done.served ≡ true → HasNoTask (step fixed w event).world) (sym own) (own_none w (actor_at w agent) refl none)

  still_none : (w : World) (event : Event) → hinders given agent w event ≡ false → HasNoTask w → HasNoTask (step fixed w event).world
  still_none w event calm none = search (event_aside, aside_none, own_event, arith)

  -- ---- events

  pub calm_more : (w : World) (event : Event) (later : List Event) → ((z : ℕ) (m : machine.World) → AllQuiet (events_of given z m w event)) → task_in w event ≡ None
      → Calm given (step fixed w event).world later → Calm given w (event ∷ later)
  calm_more w event later quiet none calm = search (all_both, decides_none, arith)

  pub calm_all : (events later : List Event) (w : World) → HasNoTask w → unhindered_from given agent w events ≡ true → Calm given (after fixed w events) later → Calm given w (events ++ later)
  calm_all [] later w none calm rest = rest
  calm_all (event ∷ events) later w none calm rest =
      let parts = and_parts (not (hinders given agent w event)) (unhindered_from given agent (step fixed w event).world events) calm in
      let quiet = not-true (hinders given agent w event) parts.0 in
      calm_more w event (events ++ later) (λ z m. quiet_event given z m w event (asks_none w event quiet) (none_in w event quiet none)) (none_in w event quiet none) (calm_all events later (step fixed w event).world (still_none w event quiet none) parts.1 rest)

  -- ---- a sweep begins

  pub begun_none : (w : World) (server : ℕ) → is_some (begins_job given w (Begin agent (Sweep server))) ≡ true → HasNoTask (step fixed w (Begin agent (Sweep server))).world
  begun_none w server begins = search (with_job, false≢true, nat_lt, slice_set, puts_in, arith)

  pub calm_sweep : (w : World) (server : ℕ) (events later : List Event) → is_some (begins_job given w (Begin agent (Sweep server))) ≡ true
      → unhindered_from given agent (step fixed w (Begin agent (Sweep server))).world events ≡ true
      → Calm given (after fixed (step fixed w (Begin agent (Sweep server))).world events) later → Calm given w (Begin agent (Sweep server) ∷ events ++ later)
  calm_sweep w server events later begins calm rest =
      calm_more w (Begin agent (Sweep server)) (events ++ later) (λ z m. quiet_event given z m w (Begin agent (Sweep server)) refl refl) refl
      (calm_all events later (step fixed w (Begin agent (Sweep server))).world (begun_none w server begins) calm rest)

  pub calm_end : (w : World) → Calm given w []
  calm_end w = record { quiet = λ z m. refl; none = refl }

  pub calm_round : (w : World) (sweep_run : List (ℕ × List Event)) → goes_round given agent w sweep_run ≡ true → Calm given w (sweeps agent sweep_run)
  calm_round w [] goes = calm_end w
  calm_round w (one ∷ more) goes =
      let begun = (step fixed w (Begin agent (Sweep one.0))).world in
      let parts = and_parts (is_some (begins_job given w (Begin agent (Sweep one.0))) && unhindered_from given agent begun one.1) (goes_round given agent (after fixed begun one.1) more) goes in
      let begins = and_parts (is_some (begins_job given w (Begin agent (Sweep one.0)))) (unhindered_from given agent begun one.1) parts.0 in
      calm_sweep w one.0 one.1 (sweeps agent more) begins.0 begins.1 (calm_round (after fixed begun one.1) more parts.1)

pub sweeps_keep_effects : Always SweepsKeepEffectsAt
sweeps_keep_effects given events later agent t server alone = search (append-nil later, calm_sweep, calm_end, effects_stay, decisions_stay, arith)
