-- Events that decide nothing change nothing that is in effect.
use Rattle.law_run_recovers.proofs.Vocabulary.{◌≡◌, ℕ, Bool, true, false, List, [], ◌∷◌, ◌++◌, append-nil, Option, Some, None, refl, sym, ap, subst, ◌∙◌, list_all, false≢true, and_parts, none-some, same_Some, Opening, arith, Request, Reply, State, reply_of, Replied, Lacked}
use Rattle.law_run_recovers.proofs.Vocabulary.{Doing, Running, RunningSweep, Taken, begin, take, next_in, next_of, fixed_of, Actor, opening, decisions, decisions_from, decisions_from-append, task_of, task_at, task_in, may_sweep}
use Rattle.law_run_recovers.proofs.Vocabulary.{Beginning, Aborted, effect, begun, Inv, beginning, decision_by, own_events, home_in, history_from, machine_of, history_of, run-append, AllKeepSides, copy_at, earlier, CanBe, all_keep}
use Rattle.law_runs.proofs.Asking.{asks_to_sweep}
use Rattle.law_runs.proofs.Moves.{sent, what_of, operator_asks}
use Rattle.law_run_machine.specs.Deciding.{begun_events}
use Rattle.law_run_machine.specs.Machines.{answered_events, events_of}
use Rattle.law_run_machine.proofs.Asked.{exchanged}
use Rattle.law_run_machine.proofs.Moves.{by_moves}
use Rattle.law_suite_machine.specs.Events.{Prepare, DecideRead, DecideRefused, DecideWrite, DecideElsewhere, Overrule, Finish, happens, Event, run}
use Rattle.law_suite_machine.specs.Conditions.{May, Obeys}
use Rattle.law_suite_machine.proofs.Preparing.{prepared_effect}
use Rattle.law_suite_machine.proofs.Finishing.{finished_effect}
use Rattle.law_suite_machine.proofs.Deciding.{decided_effect}
use Rattle.law_suite_machine.specs.Machine.{World}
use Rattle.run_core.specs.declared.event.Event as happening
use Rattle.run_core.specs.Worlds as worlds
use Rattle.run_core.specs.Runs as runs
use Rattle.law_suite_machine.proofs.Steps as steps
use Rattle.law_one_table.proofs.Effects as effects

-- ---- on the machine of a suite

-- whether an event records no verdict but Aborted
abbrev pub is_quiet : Event → Bool
is_quiet (DecideRead t set known) = false
is_quiet (DecideRefused t set known) = false
is_quiet (DecideWrite t set known new) = false
is_quiet (DecideElsewhere t verdict) = false
is_quiet other = true

abbrev pub AllQuiet : List Event → Type 0
AllQuiet events = list_all is_quiet events ≡ true

same_effect : (start : Beginning) (w : World) → Inv start w → (event : Event) → is_quiet event ≡ true → May start w event → (i : ℕ) → effect (happens start w event) i ≡ effect w i
same_effect start w inv (Prepare j t left) calm may i = prepared_effect w inv.sound j t left may i
same_effect start w inv (DecideRead t set known) calm may i = absurd (false≢true calm)
same_effect start w inv (DecideRefused t set known) calm may i = absurd (false≢true calm)
same_effect start w inv (DecideWrite t set known new) calm may i = absurd (false≢true calm)
same_effect start w inv (DecideElsewhere t verdict) calm may i = absurd (false≢true calm)
same_effect start w inv (Overrule t) calm may i = decided_effect w t Aborted w.log may.undecided (λ j plan there of. refl) i
same_effect start w inv (Finish j t verdict) calm may i = finished_effect w inv.sound j t verdict may i
same_effect start w inv other calm may i = refl

same_effects : (start : Beginning) (w : World) → Inv start w → (events : List Event) → AllQuiet events → Obeys start w events → (i : ℕ) → effect (run start w events) i ≡ effect w i
same_effects start w inv [] calm obeys i = refl
same_effects start w inv (event ∷ events) calm obeys i =
    let parts = and_parts (is_quiet event) (list_all is_quiet events) calm in
    same_effects start (happens start w event) (steps.step start w inv event obeys.0) events parts.1 obeys.1 i ∙ same_effect start w inv event parts.0 obeys.0 i

pub all_both : (xs ys : List Event) → AllQuiet xs → AllQuiet ys → AllQuiet (xs ++ ys)
all_both [] ys first later = later
all_both (x ∷ xs) ys first later = search (and_parts, all_both xs ys, arith)

-- ---- what an agent does by itself

quiet_own : (z : ℕ) (before : Option Doing) (taken : Taken) → AllQuiet (own_events z before taken)
quiet_own z before taken = search arith

-- ---- events of a world

quiet_begin : (z : ℕ) (before after : Option Doing) → AllQuiet (begun_events z before after)
quiet_begin z before after = search arith

-- what a sweep asks decides nothing
quiet_swept : (z : ℕ) (home : ℕ → ℕ) (decision : Event) (i : ℕ) (w : World) (asked : Request) (said : Reply) → may_sweep asked ≡ true → AllQuiet (exchanged z home decision i w asked said)
quiet_swept z home decision i w asked said h7 = search arith

module _ (given : Opening) (z : ℕ) (w : World) (world : worlds.World) where
  quiet_answered : (actor : Actor) (asked : ℕ × Request) (st : State) → next_of (fixed_of given) actor.agent ≡ Some asked → task_of actor.agent.doing ≡ None → AllQuiet (answered_events given z w actor (Some (what_of asked.0 st (sent actor asked.1))))
  quiet_answered actor asked st next none =
      all_both (exchanged z (home_in given) (decision_by z w actor.agent.doing) asked.0 w asked.1 (reply_of st asked.1)) (own_events z actor.agent.doing (take (fixed_of given) actor.agent (Replied (reply_of st asked.1))))
      (quiet_swept z (home_in given) (decision_by z w actor.agent.doing) asked.0 w asked.1 (reply_of st asked.1) (sweeps actor.agent.doing next none))
      (quiet_own z actor.agent.doing (take (fixed_of given) actor.agent (Replied (reply_of st asked.1))))
    where
      sweeps : (doing : Option Doing) → next_in (fixed_of given) doing ≡ Some asked → task_of doing ≡ None → may_sweep asked.1 ≡ true
      sweeps (Some (Running txn_run)) next none = absurd (none-some txn_run.task (sym none))
      sweeps (Some (RunningSweep sweep_run)) next none = ap (λ (asked : ℕ × Request). may_sweep asked.1) (sym (same_Some _ asked next)) ∙ asks_to_sweep (fixed_of given).service sweep_run sweep_run.now
      sweeps None next none = absurd (none-some asked next)

  -- an event of no transaction, and of no operator
  pub quiet_event : (event : happening.Event) → operator_asks event ≡ None → task_in world event ≡ None → AllQuiet (events_of given z w world event)
  quiet_event = by_moves given z w world (λ event _ events _. operator_asks event ≡ None → task_in world event ≡ None → AllQuiet events) (record {
    nothing = λ event _ _. refl;
    begins = λ number actor job there _ _. quiet_begin z actor.agent.doing (begin (fixed_of given) actor.agent job).doing;
    forgets = λ number actor site there _ _. refl;
    answers = λ number actor asked st there next at room _ none. quiet_answered actor asked st next (ap task_at (sym there) ∙ none);
    lacks = λ event number actor asked why by there next _ _. quiet_own z actor.agent.doing (take (fixed_of given) actor.agent (Lacked why));
    operates = λ event server asked st by there room none _. absurd (none-some (server, asked) (sym none ∙ by));
  })

-- ---- a run goes on

-- what happens from a world on is quiet for each suite, and decides nothing
pub record Calm (given : Opening) (world : worlds.World) (events : List happening.Event) : Type 0 where
  pub quiet : (z : ℕ) (w : World) → AllQuiet (history_from given z w world events)
  pub none : decisions_from (fixed_of given) world events ≡ []

module _ (given : Opening) (events later : List happening.Event) (can : CanBe given (events ++ later)) (calm : Calm given (runs.run given events) later) where
  abbrev kept : AllKeepSides given (events ++ later)
  kept = all_keep given (events ++ later) can

  abbrev before : AllKeepSides given events
  before = earlier given events later kept

  pub effects_stay : (z i : ℕ) → copy_at given (events ++ later) z i ≡ copy_at given events z i
  effects_stay z i =
      let start = beginning z given in
      let machine = machine_of given z events in
      let first = history_of given z events in
      let rest = history_from given z machine (runs.run given events) later in
      let was = effects.follows given events before z in
      let now = effects.follows given (events ++ later) kept z in
      let joined : history_of given z (events ++ later) ≡ first ++ rest = effects.history_more given z (begun start) (opening given) events later in
      let obeys : Obeys start machine rest = subst (λ w. Obeys start w rest) (sym was.is) (effects.obeys_later start (begun start) first rest (subst (Obeys start (begun start)) joined now.obeys)) in
      let is : machine_of given z (events ++ later) ≡ run start machine rest = now.is ∙ ap (run start (begun start)) joined ∙ run-append start (begun start) first rest ∙ ap (λ w. run start w rest) (sym was.is) in
      sym (effects.effect_at given (events ++ later) kept z i)
      ∙ ap (λ w. effect w i) is
      ∙ same_effects start machine (effects.inv given events before z) rest (calm.quiet z machine) obeys i
      ∙ effects.effect_at given events before z i

  pub decisions_stay : decisions given (events ++ later) ≡ decisions given events
  decisions_stay = decisions_from-append (fixed_of given) (opening given) events later ∙ ap (λ rest. decisions given events ++ rest) calm.none ∙ append-nil (decisions given events)
