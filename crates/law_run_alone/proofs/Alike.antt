-- In a run in which nothing disturbs any transaction all of them are decided, but for one that still runs.
use Rattle.law_run_alone.proofs.Vocabulary.{◌≡◌, ◌⊎◌, inl, inr, ℕ, Bool, true, false, List, [], ◌∷◌, ◌++◌, append_assoc, Option, Some, None, refl, sym, ap, subst, ◌∙◌, ◌&&◌, ◌||◌, not, is_some, cons_option, false≢true, and_parts, arith, Identity}
use Rattle.law_run_alone.proofs.Vocabulary.{Opening, IsAccepted, Op, Has, has_from, contains_from, has_any, Ending, Refused, Job, Transaction, Doing, Running, RunningSweep, fixed_of, is_idle, Event, Begin, EndedJob, Actor, World, actor_at, step}
use Rattle.law_run_alone.proofs.Vocabulary.{dones, outcomes, run, decisions, task_of, task_at, dones-append, outcomes-append, number_of, ended, append_has_left, append_has_right, EndStands, ends_as, later_decisions, decisions_go_on, CanBe, all_idle}
use Rattle.law_run_alone.proofs.Vocabulary.{begins_job, begins_alone, jobs_from, jobs_of, one_at_a_time_from, one_at_a_time, IsDecided, IsRunning, AllAreDecided, UndisturbedEndingsAreOne, all_up, no_locks, disturbs, is_decided, begins_clear}
use Rattle.law_run_alone.proofs.Vocabulary.{some_runs, all_undisturbed_from, all_undisturbed, append-nil}
use Rattle.txn_core.specs.declared.ending.Ending.TheVariants.{Answered}
use Rattle.law_run_alone.proofs.Turns.{doing_of, doing_at, all_none}
use Rattle.law_run_alone.proofs.Owns.{IsMine}
use Rattle.law_run_alone.proofs.Clear.{at_has}
use Rattle.law_run_alone.proofs.Same.{endings_are_one}
use Rattle.law_run_alone.proofs.Reached.{can_front, run_more}
use Rattle.law_run_alone.proofs.Undisturbed.{Reached, reached_first, runs_first, next_reached, ended_decided, runs_still}

two_parts : (a b c : Bool) → (a && b && c) ≡ true → (a ≡ true) × (b ≡ true) × (c ≡ true)
two_parts a b c h3 = search arith

-- ---- a decided ending stands among the decisions

decided_then : (given : Opening) (all rest : List Event) (t : ℕ) → IsDecided (decisions given all) t → IsDecided (decisions given (all ++ rest)) t
decided_then given all rest t is = grind (contains_from, decisions_go_on, append_has_left, later_decisions, has_from, arith)

-- a job that ends in the last event
ends_last : (given : Opening) (all : List Event) (event : Event) (job : EndedJob) → (step (fixed_of given) (run given all) event).done.outcome ≡ Some job → Has (ended given (all ++ event ∷ [])) job
ends_last given all event job is = search (dones-append, outcomes-append, append_has_right, arith)

decided_last : (given : Opening) → IsAccepted given → (all : List Event) (job : EndedJob) → Has (ended given all) job → is_decided job.ending ≡ true → IsDecided (decisions given all) (number_of job)
decided_last given accepted all job has well = of job.ending refl well
  where
    stands : (ending : Ending) → job.ending ≡ ending → EndStands (decisions given all) (number_of job) ending
    stands ending same = ends_as given accepted all job ending (contains_from (ended given all) job has) same

    of : (ending : Ending) → job.ending ≡ ending → is_decided ending ≡ true → IsDecided (decisions given all) (number_of job)
    of (Answered answers) same well = let is = stands (Answered answers) same in record { decision = is.decision; there = contains_from (decisions given all) is.decision is.there; of_it = is.of_it }
    of (Refused refusal) same well = let is = stands (Refused refusal) same in record { decision = is.decision; there = contains_from (decisions given all) is.decision is.there; of_it = is.of_it }
    of other same well = absurd (false≢true well)

-- ---- who runs

record Runs (world : World) (agent t : ℕ) : Type 0 where
  running : IsRunning world t
  some : some_runs world ≡ true
  not_idle : all_idle world ≡ false

runs_it : (world : World) (agent t : ℕ) → IsMine t (doing_at world agent) → is_idle (doing_at world agent) ≡ false → Runs world agent t
runs_it world agent t mine runs = of (actor_at world agent) refl mine runs
  where
    busy : (b : Bool) → all_idle world ≡ b → is_idle (doing_at world agent) ≡ false → b ≡ false
    busy b h1 h2 = search (false≢true, all_none, arith)

    by : (actor : Actor) → actor_at world agent ≡ Some actor → (doing : Option Doing) → actor.agent.doing ≡ doing → IsMine t doing → is_idle doing ≡ false → Runs world agent t
    by actor is None same mine runs = absurd (false≢true (sym runs))
    by actor is (Some (RunningSweep sweep_run)) same mine runs = absurd mine
    by actor is (Some (Running txn_run)) same mine runs = record {
      running = record { number = agent; task = txn_run.task; runs = ap task_at is ∙ ap task_of same; of_it = mine };
      some = has_any (λ (actor : Actor). is_some (task_of actor.agent.doing)) world.agents actor (at_has world.agents agent actor is) (ap (λ doing. is_some (task_of doing)) same);
      not_idle = busy (all_idle world) refl (ap (λ found. is_idle (doing_of found)) is ∙ ap is_idle same);
    }

    of : (found : Option Actor) → actor_at world agent ≡ found → IsMine t (doing_of found) → is_idle (doing_of found) ≡ false → Runs world agent t
    of None is mine runs = absurd (false≢true (sym runs))
    of (Some actor) is mine runs = by actor is actor.agent.doing refl mine runs

-- what begins nothing, where not every agent is idle
none_begins : (begun : Option (ℕ × Job)) (idle : Bool) → idle ≡ false → (not (is_some begun) || idle) ≡ true → begun ≡ None
none_begins begun idle h2 h3 = search arith

-- what holds where something begins
where_begun : (begun : Option (ℕ × Job)) (one : ℕ × Job) (b : Bool) → begun ≡ Some one → (not (is_some begun) || b) ≡ true → b ≡ true
where_begun begun one b h3 h4 = search arith

is_calm : (runs some : Bool) → runs ≡ true → not (runs && some) ≡ true → some ≡ false
is_calm runs some h2 h3 = search arith

-- it is decided, or still runs
abbrev DecidedOrRuns : Opening → List Event → ℕ → Type 0
DecidedOrRuns given all t = IsDecided (decisions given all) t ⊎ IsRunning (run given all) t

-- ---- from the begin of a transaction on

module _ (given : Opening) (agent t : ℕ) where
  follow : (all rest : List Event) → CanBe given (all ++ rest) → Reached given t agent all → is_idle (doing_at (run given all) agent) ≡ false
      → one_at_a_time_from given (run given all) rest ≡ true → all_undisturbed_from given (run given all) rest ≡ true → DecidedOrRuns given (all ++ rest) t
  follow all [] can reached runs alone calm = inr (subst (λ all. IsRunning (run given all) t) (sym (append-nil all)) (runs_it (run given all) agent t reached.clear.owns.mine runs).running)
  follow all (event ∷ rest) can reached runs alone calm =
      subst (λ whole. DecidedOrRuns given whole t) (append_assoc all (event ∷ []) rest)
      (of (step (fixed_of given) world event).done.outcome refl can'
      (λ is. follow (all ++ event ∷ []) rest can' (next_reached given t agent all event can_now reached quiet none)
      (runs_still given t agent all event can_now reached quiet none runs is)
      (subst (λ world. one_at_a_time_from given world rest ≡ true) more alone'.1) (subst (λ world. all_undisturbed_from given world rest ≡ true) more calm'.2)))
    where
      world : World
      world = run given all

      can' : CanBe given ((all ++ event ∷ []) ++ rest)
      can' = subst (CanBe given) (sym (append_assoc all (event ∷ []) rest)) can

      can_now : CanBe given (all ++ event ∷ [])
      can_now = can_front given (all ++ event ∷ []) rest can'

      now : Runs world agent t
      now = runs_it world agent t reached.clear.owns.mine runs

      calm' : (begins_clear given world event ≡ true) × (not (some_runs world && disturbs given world event) ≡ true) × (all_undisturbed_from given (step (fixed_of given) world event).world rest ≡ true)
      calm' = two_parts (begins_clear given world event) (not (some_runs world && disturbs given world event)) (all_undisturbed_from given (step (fixed_of given) world event).world rest) calm

      alone' : (begins_alone given world event ≡ true) × (one_at_a_time_from given (step (fixed_of given) world event).world rest ≡ true)
      alone' = and_parts (begins_alone given world event) (one_at_a_time_from given (step (fixed_of given) world event).world rest) alone

      quiet : disturbs given world event ≡ false
      quiet = is_calm (some_runs world) (disturbs given world event) now.some calm'.1

      none : begins_job given world event ≡ None
      none = none_begins (begins_job given world event) (all_idle world) now.not_idle alone'.0

      more : (step (fixed_of given) world event).world ≡ run given (all ++ event ∷ [])
      more = sym (run_more given all event)

      of : (outcome : Option EndedJob) → (step (fixed_of given) world event).done.outcome ≡ outcome → CanBe given ((all ++ event ∷ []) ++ rest)
          → ((step (fixed_of given) world event).done.outcome ≡ None → DecidedOrRuns given ((all ++ event ∷ []) ++ rest) t)
          → DecidedOrRuns given ((all ++ event ∷ []) ++ rest) t
      of (Some job) is can later =
          let well = ended_decided given t agent all event can_now reached quiet none job is in
          inl (decided_then given (all ++ event ∷ []) rest t (subst (IsDecided (decisions given (all ++ event ∷ []))) well.0
          (decided_last given can.accepted (all ++ event ∷ []) job (ends_last given all event job is) well.1)))
      of None is can later = later is

-- ---- every transaction

-- which event it is that begins a job
record BegunBy (event : Event) (job : Job) : Type 0 where
  agent : ℕ
  is : event ≡ Begin agent job

begun_by : (given : Opening) (world : World) (event : Event) (t : ℕ) (job : Job) → begins_job given world event ≡ Some (t, job) → BegunBy event job
begun_by given world event t job h5 = search arith

module _ (given : Opening) where
  begins_here : (front rest : List Event) (agent t : ℕ) (caller : Identity) (site : ℕ) (ops : List Op) →
      let begins = Begin agent (Transaction caller site ops) in
      CanBe given (front ++ begins ∷ rest) → one_at_a_time_from given (run given front) (begins ∷ rest) ≡ true → all_undisturbed_from given (run given front) (begins ∷ rest) ≡ true
      → begins_job given (run given front) begins ≡ Some (t, Transaction caller site ops) → DecidedOrRuns given (front ++ begins ∷ rest) t
  begins_here front rest agent t caller site ops can alone calm is =
      let begins = Begin agent (Transaction caller site ops) in
      let world = run given front in
      let next = (step (fixed_of given) world begins).world in
      let calm' = two_parts (begins_clear given world begins) (not (some_runs world && disturbs given world begins)) (all_undisturbed_from given next rest) calm in
      let alone' = and_parts (begins_alone given world begins) (one_at_a_time_from given next rest) alone in
      let idle = where_begun (begins_job given world begins) (t, Transaction caller site ops) (all_idle world) is alone'.0 in
      let clear = and_parts (all_up world) (no_locks world) (where_begun (begins_job given world begins) (t, Transaction caller site ops) (all_up world && no_locks world) is calm'.0) in
      let can' : CanBe given ((front ++ begins ∷ []) ++ rest) = subst (CanBe given) (sym (append_assoc front (begins ∷ []) rest)) can in
      let can_now = can_front given (front ++ begins ∷ []) rest can' in
      let more = sym (run_more given front begins) in
      subst (λ whole. DecidedOrRuns given whole t) (append_assoc front (begins ∷ []) rest)
      (follow given agent t (front ++ begins ∷ []) rest can' (reached_first given front agent t caller site ops can_now is idle clear.0 clear.1)
      (runs_first given front agent t caller site ops can_now is idle clear.0 clear.1)
      (subst (λ world. one_at_a_time_from given world rest ≡ true) more alone'.1) (subst (λ world. all_undisturbed_from given world rest ≡ true) more calm'.2))

  each : (front rest : List Event) → CanBe given (front ++ rest) → one_at_a_time_from given (run given front) rest ≡ true → all_undisturbed_from given (run given front) rest ≡ true
      → (t : ℕ) (caller : Identity) (site : ℕ) (ops : List Op) → Has (jobs_from given (run given front) rest) (t, Transaction caller site ops) → DecidedOrRuns given (front ++ rest) t
  each front [] can alone calm t caller site ops has = absurd has
  each front (event ∷ rest) can alone calm t caller site ops has =
      of (begins_job given (run given front) event) refl has
      (λ has. subst (λ whole. DecidedOrRuns given whole t) (append_assoc front (event ∷ []) rest)
      (each (front ++ event ∷ []) rest (subst (CanBe given) (sym (append_assoc front (event ∷ []) rest)) can)
      (subst (λ world. one_at_a_time_from given world rest ≡ true) more (and_parts (begins_alone given (run given front) event) (one_at_a_time_from given next rest) alone).1)
      (subst (λ world. all_undisturbed_from given world rest ≡ true) more
      (two_parts (begins_clear given (run given front) event) (not (some_runs (run given front) && disturbs given (run given front) event))
      (all_undisturbed_from given next rest) calm).2)
      t caller site ops (subst (λ world. Has (jobs_from given world rest) (t, Transaction caller site ops)) more has)))
    where
      next : World
      next = (step (fixed_of given) (run given front) event).world

      more : next ≡ run given (front ++ event ∷ [])
      more = sym (run_more given front event)

      here : begins_job given (run given front) event ≡ Some (t, Transaction caller site ops) → DecidedOrRuns given (front ++ event ∷ rest) t
      here is = grind (begun_by, begins_here, arith)

      of : (begun : Option (ℕ × Job)) → begins_job given (run given front) event ≡ begun → Has (cons_option begun (jobs_from given next rest)) (t, Transaction caller site ops)
          → (Has (jobs_from given next rest) (t, Transaction caller site ops) → DecidedOrRuns given (front ++ event ∷ rest) t)
          → DecidedOrRuns given (front ++ event ∷ rest) t
      of begun h1 h2 h3 = search (here, arith)

  pub all_are_decided : (events : List Event) → CanBe given events → one_at_a_time given events ≡ true → all_undisturbed given events ≡ true → AllAreDecided given events
  all_are_decided events can alone calm t is = each [] events can alone calm t is.caller is.site is.ops (has_from (jobs_of given events) (t, Transaction is.caller is.site is.ops) is.there)

pub undisturbed_endings_are_one : UndisturbedEndingsAreOne
undisturbed_endings_are_one given other alike events events' can can' alone alone' same calm calm' = search (endings_are_one, all_are_decided, arith)
