-- A transaction of some side by side: what it takes that nobody meets it up to a moment, and up to the next.
use Rattle.law_run_recovers.proofs.Vocabulary.{◌≡◌, ◌⊎◌, inl, inr, ⊎_elim, ℕ, true, false, List, [], ◌∷◌, ◌++◌, append-nil, append_assoc, Some, refl, sym, ap, subst, ◌∙◌, ◌||◌, Identity, Opening, Op, Has, Job, arith, Transaction, fixed_of, Event}
use Rattle.law_run_recovers.proofs.Vocabulary.{Begin, Actor, World, opening, actor_at, run, ended, CanBe, begins_job, asks_for, is_running, world_after, robs, hinders_itself, StandsOpen, GoesUnmet, GoesAmongLocks, everywhere, Begun}
use Rattle.law_run_recovers.proofs.Keeps.{after_append}
use Rattle.law_run_recovers.proofs.Open.{unmet_is_among_locks}
use Rattle.law_run_recovers.proofs.Sides.{ended_still, ended_runs_not}
use Rattle.law_run_recovers.proofs.AmongCourse.{Course, parted, course_runs}
use Rattle.law_run_recovers.proofs.Steady.{GoesSteadily, steady}
use Rattle.law_run_recovers.proofs.AmongLeft.{left_at}

pub nil_front : {X : Type 0} (xs ys : List X) → [] ≡ xs ++ ys → xs ≡ []
nil_front [] ys is = refl
nil_front (x ∷ xs) ys is = cc

-- who begins is there
pub begins_there : (given : Opening) (w : World) (i t : ℕ) (job : Job) → begins_job given w (Begin i job) ≡ Some (t, job) → (actor : Actor) × (actor_at w i ≡ Some actor)
begins_there given w i t job = search arith

-- the job that is begun is the event's
pub job_same : (given : Opening) (w : World) (k : ℕ) (job : Job) (pair : ℕ × Job) → begins_job given w (Begin k job) ≡ Some pair → job ≡ pair.1
job_same given w k job pair = search arith

-- one that began in a front began in all
abbrev pub onward : (given : Opening) (events so_far more : List Event) → Begun given events so_far → Begun given events (so_far ++ more)
onward given events so_far more one = record {
  before = one.before;
  after = one.after ++ more;
  agent = one.agent;
  t = one.t;
  caller = one.caller;
  site = one.site;
  ops = one.ops;
  parts = ap (λ xs. xs ++ more) one.parts ∙ append_assoc one.before (Begin one.agent (Transaction one.caller one.site one.ops) ∷ one.after) more;
  begins = one.begins;
}

module _ (given : Opening) (events before : List Event) (agent t : ℕ) (caller : Identity) (site : ℕ) (ops : List Op) where
  abbrev pub its_begin : Event
  its_begin = Begin agent (Transaction caller site ops)

  abbrev pub world_then : List Event → World
  world_then mid = world_after given (events ++ before) agent caller site ops mid

  pub then_is : (mid : List Event) → world_after given (events ++ before) agent caller site ops mid ≡ run given (events ++ (before ++ Begin agent (Transaction caller site ops) ∷ mid))
  then_is mid = sym (after_append (fixed_of given) (events ++ before) (its_begin ∷ mid) (opening given)) ∙ ap (run given) (append_assoc events before (its_begin ∷ mid))

  -- until after these events nobody meets it
  pub record IsUnmet (after : List Event) : Type 0 where
    pub actor : Actor
    pub there : actor_at (run given (events ++ before)) agent ≡ Some actor
    pub begins : begins_job given (run given (events ++ before)) (Begin agent (Transaction caller site ops)) ≡ Some (t, Transaction caller site ops)
    pub unmet : (mid rest : List Event) → after ≡ mid ++ rest → is_running (world_then mid) agent t ≡ true → StandsOpen (run given (events ++ before)) (world_then mid) t (asks_for given (events ++ before) t caller ops) everywhere
    pub free_hand : (mid rest : List Event) (event : Event) → after ≡ mid ++ event ∷ rest → is_running (world_then mid) agent t ≡ true
        → (hinders_itself given agent (world_then mid) event || robs given agent t (world_then mid) event) ≡ false

  -- one event more
  pub unmet_more : (after : List Event) (event : Event) → IsUnmet after
      → (is_running (world_then after) agent t ≡ true → (hinders_itself given agent (world_then after) event || robs given agent t (world_then after) event) ≡ false)
      → (is_running (world_then (after ++ event ∷ [])) agent t ≡ true
      → StandsOpen (run given (events ++ before)) (world_then (after ++ event ∷ [])) t (asks_for given (events ++ before) t caller ops) everywhere)
      → IsUnmet (after ++ event ∷ [])
  unmet_more after event u calm stands = record { actor = u.actor; there = u.there; begins = u.begins; unmet = unmet_so; free_hand = free_so }
    where
      unmet_so : (mid rest : List Event) → after ++ event ∷ [] ≡ mid ++ rest → is_running (world_then mid) agent t ≡ true
          → StandsOpen (run given (events ++ before)) (world_then mid) t (asks_for given (events ++ before) t caller ops) everywhere
      unmet_so mid [] is running =
          let whole : after ++ event ∷ [] ≡ mid = is ∙ append-nil mid in
          subst (λ mid. StandsOpen (run given (events ++ before)) (world_then mid) t (asks_for given (events ++ before) t caller ops) everywhere) whole
          (stands (ap (λ mid. is_running (world_then mid) agent t) whole ∙ running))
      unmet_so mid (one ∷ rest) is running = of (parted after event mid one rest is)
        where
          of : ((mid ≡ after) × (one ≡ event) × (rest ≡ [])) ⊎ ((front : List Event) × (after ≡ mid ++ one ∷ front) × (rest ≡ front ++ event ∷ []))
              → StandsOpen (run given (events ++ before)) (world_then mid) t (asks_for given (events ++ before) t caller ops) everywhere
          of (inl here) = u.unmet mid [] (sym here.0 ∙ sym (append-nil mid)) running
          of (inr old) = u.unmet mid (one ∷ old.0) old.1 running

      free_so : (mid rest : List Event) (one : Event) → after ++ event ∷ [] ≡ mid ++ one ∷ rest → is_running (world_then mid) agent t ≡ true
          → (hinders_itself given agent (world_then mid) one || robs given agent t (world_then mid) one) ≡ false
      free_so mid rest one is running = of (parted after event mid one rest is)
        where
          of : ((mid ≡ after) × (one ≡ event) × (rest ≡ [])) ⊎ ((front : List Event) × (after ≡ mid ++ one ∷ front) × (rest ≡ front ++ event ∷ []))
              → (hinders_itself given agent (world_then mid) one || robs given agent t (world_then mid) one) ≡ false
          of h0 = search arith

  module _ (after : List Event) (u : IsUnmet after) (can : CanBe given (events ++ (before ++ Begin agent (Transaction caller site ops) ∷ after))) where
    abbrev pub goes_of : GoesUnmet given (events ++ before) after agent t caller site ops u.actor
    goes_of = record {
      can = subst (CanBe given) (sym (append_assoc events before (Begin agent (Transaction caller site ops) ∷ after))) can;
      there = u.there;
      begins = u.begins;
      near = everywhere;
      are_near = record { home = refl; first = λ server vote. refl; hints = λ one prefix server has is vote. refl; shown = λ one by server has near up vote. refl; set = λ one server has vote. refl };
      unmet = u.unmet;
      free_hand = u.free_hand;
    }

    abbrev pub among_of : GoesAmongLocks given (events ++ before) after agent t caller site ops u.actor
    among_of = unmet_is_among_locks given (events ++ before) after agent t caller site ops u.actor goes_of

    abbrev pub steady_of : GoesSteadily given (events ++ before) after agent t caller site ops u.actor
    steady_of = steady given (events ++ before) after agent t caller site ops u.actor among_of

    -- who runs later has run all along
    pub ran : (mid rest : List Event) → after ≡ mid ++ rest → (more : List Event) → is_running (run given ((events ++ (before ++ Begin agent (Transaction caller site ops) ∷ mid)) ++ more)) agent t ≡ true
        → Course given (events ++ before) after agent t caller site ops u.actor steady_of mid
    ran mid rest split more running =
        ⊎_elim
        (λ c. c.0)
        (λ over.
        absurd (ended_runs_not given can.accepted ((events ++ (before ++ its_begin ∷ mid)) ++ more) agent t over.0.0
        (ended_still given can.accepted (events ++ (before ++ its_begin ∷ mid)) more over.0.0 (subst (λ all. Has (ended given all) over.0.0) (append_assoc events before (its_begin ∷ mid)) over.0.1))
        over.0.2 running))
        (left_at given (events ++ before) after agent t caller site ops u.actor among_of mid rest split)

    pub ran_then : (mid rest : List Event) → after ≡ mid ++ rest → (more : List Event) → is_running (run given ((events ++ (before ++ Begin agent (Transaction caller site ops) ∷ mid)) ++ more)) agent t ≡ true
        → is_running (run given (events ++ (before ++ Begin agent (Transaction caller site ops) ∷ mid))) agent t ≡ true
    ran_then mid rest split more running = search (then_is, course_runs, ran, arith)
