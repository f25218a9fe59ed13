-- A run in which all servers are up and nothing upsets it. It is calm where rows, prefixes and stored copies of some suites stand still meanwhile.
use Rattle.law_run_recovers.proofs.Vocabulary.{List, None, Option, Some, [], ap, append-nil, append_assoc, false, Bool, is_some, refl, subst, sym, true, ℕ, ◌++◌, ◌∙◌, ◌∷◌, ◌≡◌, false≢true, Identity, Op, CanBe, all_at, arith, at_has, has_any, Running}
use Rattle.law_run_recovers.proofs.Vocabulary.{RunningSweep, eq-eqb, is_up, can_front, run_more, AllAt, begins_job, machine_of, append_has_left, append_has_right, beginning, WasPrefix, Has, State, copy_of, row_of, decisions_from-append, Decided}
use Rattle.law_run_recovers.proofs.Vocabulary.{decided, decisions, decisions_from, run, table_of, Actor, actor_at, server_at, step, Event, Begin, IsAccepted, Opening, Prefix, fixed_of, is_idle, Doing, Sweep, Begun, asks_for, hinders_itself}
use Rattle.law_run_recovers.proofs.Vocabulary.{is_running, runs, sweeps_now, upsets}
use Rattle.law_run_recovers.specs.MeetsBeside.{GoesOn}
use Rattle.law_run_recovers.proofs.Busy.{BusyWith, busy_by}
use Rattle.law_run_recovers.proofs.Found.{Answering}
use Rattle.law_run_recovers.proofs.Sides.{AllUp, up_unless}
use Rattle.law_run_recovers.proofs.Stands.{asks_of}
use Rattle.law_run_recovers.proofs.Picks.{along}

-- ---- the run

-- nothing upsets it
abbrev pub Fair : Opening → List Event → List Event → Type 0
Fair given events later = GoesOn given events later

-- and what is decided changes of these suites no row, no stored copy, and no prefix that they had; what was stored of them is in effect
pub record Calm (given : Opening) (events later : List Event) (still : ℕ → Type 0) : Type 0 where
  pub fair : Fair given events later
  pub rows : (so_far rest : List Event) → later ≡ so_far ++ rest → (z : ℕ) → still z → row_of (table_of given (events ++ so_far)).rows z ≡ row_of (table_of given events).rows z
  pub was : (so_far rest : List Event) → later ≡ so_far ++ rest → (z : ℕ) → still z → (prefix : Prefix) → WasPrefix (beginning z given) (machine_of given z (events ++ so_far)).log prefix
      → WasPrefix (beginning z given) (machine_of given z events).log prefix
  pub stored : (so_far rest : List Event) → later ≡ so_far ++ rest → (z : ℕ) → still z
      → AllAt (λ s st. (old : State) → server_at (run given events) s ≡ Some old → copy_of st.store z ≡ copy_of old.store z) (run given (events ++ so_far))
  pub answers : (z : ℕ) → still z → Answering (fixed_of given) (run given events) z (machine_of given z events) (is_up (run given events))

-- A transaction of which all stands still that it asks for, and each step of which is served.
pub record IsOurs (given : Opening) (events later : List Event) (still : ℕ → Type 0) (agent t : ℕ) (caller : Identity) (ops : List Op) : Type 0 where
  pub asks : (z : ℕ) → asks_of (asks_for given events t caller ops) z ≡ true → still z
  pub served : (before after : List Event) (event : Event) → later ≡ before ++ event ∷ after → is_running (run given (events ++ before)) agent t ≡ true
      → hinders_itself given agent (run given (events ++ before)) event ≡ false

abbrev pub Ours : (given : Opening) (events later : List Event) (still : ℕ → Type 0) → Begun given events later → Type 0
Ours given events later still one = IsOurs given events later still one.agent one.t one.caller one.ops

-- so it is in a front
pub ours_front : (given : Opening) (events later so_far rest : List Event) (still : ℕ → Type 0) (agent t : ℕ) (caller : Identity) (ops : List Op) → later ≡ so_far ++ rest
    → IsOurs given events later still agent t caller ops → IsOurs given events so_far still agent t caller ops
ours_front given events later so_far rest still agent t caller ops whole ours = search (append_assoc, arith)

-- a front of it is so too
pub fair_front : (given : Opening) (events so_far rest : List Event) → Fair given events (so_far ++ rest) → Fair given events so_far
fair_front given events so_far rest fair = search (can_front, append_assoc, arith)

pub calm_front : (given : Opening) (events so_far rest : List Event) (still : ℕ → Type 0) → Calm given events (so_far ++ rest) still → Calm given events so_far still
calm_front given events so_far rest still calm = record {
  fair = fair_front given events so_far rest calm.fair;
  rows = λ before after split. calm.rows before (after ++ rest) (ap (λ xs. xs ++ rest) split ∙ append_assoc before after rest);
  was = λ before after split. calm.was before (after ++ rest) (ap (λ xs. xs ++ rest) split ∙ append_assoc before after rest);
  stored = λ before after split. calm.stored before (after ++ rest) (ap (λ xs. xs ++ rest) split ∙ append_assoc before after rest);
  answers = calm.answers;
}

module _ (given : Opening) (events later : List Event) (fair : Fair given events later) where
  pub accepted : IsAccepted given
  accepted = fair.can.accepted

  pub can_at : (so_far rest : List Event) → later ≡ so_far ++ rest → CanBe given (events ++ so_far)
  can_at so_far rest split = can_front given (events ++ so_far) rest (subst (CanBe given) (ap (λ later. events ++ later) split ∙ sym (append_assoc events so_far rest)) fair.can)

  pub run_next : (so_far : List Event) (event : Event) → run given (events ++ (so_far ++ event ∷ [])) ≡ (step (fixed_of given) (run given (events ++ so_far)) event).world
  run_next so_far event = ap (run given) (sym (append_assoc events so_far (event ∷ []))) ∙ run_more given (events ++ so_far) event

  -- ---- servers stay up

  pub up_at : (so_far rest : List Event) → later ≡ so_far ++ rest → AllUp given accepted (run given (events ++ so_far))
  up_at = along later (λ so_far. AllUp given accepted (run given (events ++ so_far)))
      (λ so_far rest event split up. subst (AllUp given accepted) (sym (run_next so_far event)) (up_unless given accepted (events ++ so_far) event (λ server is. false≢true (sym (fair.even so_far rest event split) ∙ ap (upsets given (run given (events ++ so_far))) is)) up))
      (subst (λ all. AllUp given accepted (run given all)) (sym (append-nil events)) (λ s st at. all_at (λ (st : State). st.up) (run given events).servers st fair.up (at_has (run given events).servers s st at)))

  -- no sweep begins
  abbrev pub unswept : (so_far rest : List Event) (k server : ℕ) → later ≡ so_far ++ Begin k (Sweep server) ∷ rest → is_some (begins_job given (run given (events ++ so_far)) (Begin k (Sweep server))) ≡ false
  unswept so_far rest k server split = fair.even so_far rest (Begin k (Sweep server)) split

  -- nobody is at a sweep
  none_sweeps : (i : ℕ) (here : Actor) → actor_at (run given (events ++ [])) i ≡ Some here → sweeps_now here.agent.doing ≡ false
  none_sweeps i here there = of (sweeps_now here.agent.doing) refl
    where
      of : (b : Bool) → sweeps_now here.agent.doing ≡ b → b ≡ false
      of false is = refl
      of true is =
          absurd (false≢true (sym fair.unswept
          ∙ has_any (λ (actor : Actor). sweeps_now actor.agent.doing) (run given events).agents here (at_has (run given events).agents i here (ap (λ all. actor_at (run given all) i) (sym (append-nil events)) ∙ there)) is))

  pub some_run : (so_far rest : List Event) → later ≡ so_far ++ rest → (i : ℕ) (here : Actor) → actor_at (run given (events ++ so_far)) i ≡ Some here → is_idle here.agent.doing ≡ false → (t : ℕ) × (runs t here.agent.doing ≡ true)
  some_run so_far rest split i here there busy =
      let it = busy_by given events later fair.can unswept (λ so_far i t. Unit {0}) (λ so_far event i t so. tt) (λ so_far rest k t caller site ops begins. tt)
      (λ i here there busy. first i here.agent.doing (none_sweeps i here there) busy) so_far rest split i here there busy in
      (it.t, it.runs_it)
    where
      first : (i : ℕ) (doing : Option Doing) → sweeps_now doing ≡ false → is_idle doing ≡ false → BusyWith given events later fair.can unswept (λ so_far i t. Unit {0}) (λ so_far event i t so. tt) (λ so_far rest k t caller site ops begins. tt) [] i doing
      first i None unswept busy = absurd (false≢true (sym busy))
      first i (Some (RunningSweep sweep_run)) unswept busy = absurd (false≢true (sym unswept))
      first i (Some (Running txn_run)) unswept busy = record { t = txn_run.task.t; so = tt; runs_it = eq-eqb txn_run.task.t txn_run.task.t refl }

  -- ---- what is decided

  -- what a front decides stands among the decisions
  pub decided_on : (so_far rest : List Event) → later ≡ so_far ++ rest → (d : Decided) → Has (decisions given (events ++ so_far)) d → Has (decisions given (events ++ later)) d
  decided_on so_far rest split d has = search (append_assoc, decisions_from-append, append_has_left, arith)

  module _ (so_far rest : List Event) (event : Event) (split : later ≡ so_far ++ event ∷ rest) (d : Decided) (is : decided (fixed_of given) (run given (events ++ so_far)) event ≡ Some d) where
    -- it stands among the decisions
    pub decided_has : Has (decisions given (events ++ later)) d
    decided_has = search (append_assoc, decisions_from-append, append_has_right, arith)
