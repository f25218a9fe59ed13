-- How a transaction stands that goes steadily, at each moment at which it runs; and what an event that is not its own leaves of that.
use Rattle.law_run_recovers.proofs.Vocabulary.{◌≡◌, ◌⊎◌, inl, inr, ⊎_elim, ℕ, ◌<◌, Bool, true, false, List, [], ◌∷◌, ◌++◌, Option, Some, None, refl, sym, ap, subst, ◌∙◌, arith, ◌+◌, ◌==◌, ◌||◌, false≢true, eqb-true, eq-eqb, nat_tests, none-some}
use Rattle.law_run_recovers.proofs.Vocabulary.{Identity, Opening, Prefix, LockMode, Op, PlainTable, State, Has, Cache, forgotten, Transaction, Ending, Suites, Fixed, Task, Phase, TransactionRun, Doing, Running, RunningSweep, Agent, fixed_of, is_idle}
use Rattle.law_run_recovers.proofs.Vocabulary.{begin, forget, after_all, after-append, Event, Begin, Step, Crash, Return, Forget, Lack, Actor, World, server_at, actor_at, step, run, decisions, table_of, names, may_sweep, same_place}
use Rattle.law_run_recovers.proofs.Vocabulary.{agents_ask_for_themselves, holds_of, service_stays, agent_of, agent_at, locks_in, locks_at, runs, running_in, is_running, begun_world, world_after, robs, hinders_itself, bereaves, shows_same, Replica}
use Rattle.law_run_recovers.proofs.Vocabulary.{all_consistent}
use Rattle.file_ops.specs.Rows as rows
use Rattle.rep_core.specs.declared.request.Request.TheVariants as request
use Rattle.txn_core.specs.Doing as doing
use Rattle.txn_core.specs.Agents as agents
use Rattle.law_run_recovers.proofs.Steady.{GoesSteadily}
use Rattle.law_run_recovers.proofs.Apart.{Apart, hint_forgotten}
use Rattle.law_run_recovers.proofs.Keeps.{after_append, run_at, step_asks, operates_it, becomes_none, lacks_none, IsAtWork, at_work}
use Rattle.law_run_recovers.proofs.NearGround.{its, opens, first_asked, opens_up, Known, ground, number, sight}
use Rattle.law_run_recovers.proofs.Open.{its_begin}
use Rattle.law_run_recovers.proofs.Polled.{Sight}
use Rattle.law_run_recovers.proofs.Serves.{On, Told, told_on}
use Rattle.law_run_recovers.proofs.Stands.{EndsRight, PhaseStands}
use Rattle.law_run_recovers.proofs.AmongAt.{IsCalm, IsSpared, HasWhereOpen, ShowsWhereLocked}
use Rattle.law_run_recovers.proofs.Still.{IsOpen, IsOpenPhase}
use Rattle.law_run_recovers.proofs.Locked.{copy_stays}

-- ---- lists

abbrev pub head_or : {X : Type 0} → X → List X → X
head_or x [] = x
head_or x (y ∷ ys) = y

abbrev pub tail_or : {X : Type 0} → List X → List X
tail_or [] = []
tail_or (y ∷ ys) = ys

pub nil_cons : {X : Type 0} (xs : List X) (x : X) (ys : List X) → [] ≡ xs ++ x ∷ ys → ⊥
nil_cons [] x ys is = cc
nil_cons (y ∷ xs) x ys is = cc

-- a list with one more behind is parted there, or before
pub parted : {X : Type 0} (xs : List X) (x : X) (front : List X) (y : X) (back : List X) → xs ++ x ∷ [] ≡ front ++ y ∷ back
    → ((front ≡ xs) × (y ≡ x) × (back ≡ [])) ⊎ ((rest : List X) × (xs ≡ front ++ y ∷ rest) × (back ≡ rest ++ x ∷ []))
parted [] x [] y back is = inl (refl, sym (ap (head_or x) is), sym (ap tail_or is))
parted [] x (z ∷ front) y back is = absurd (nil_cons front y back (ap tail_or is))
parted (w ∷ xs) x [] y back is = inr (xs, ap (λ z. z ∷ xs) (ap (head_or w) is), sym (ap tail_or is))
parted (w ∷ xs) x (z ∷ front) y back is = search (parted xs x front y back, arith)

-- ---- at each moment

pub both_so : (a b c : Bool) → (a || b) ≡ false → c ≡ false → (a || (b || c)) ≡ false
both_so a b c one two = grind (arith, nat_tests)

module _ (given : Opening) (events later : List Event) (agent t : ℕ) (caller : Identity) (site : ℕ) (ops : List Op) (actor : Actor) (goes : GoesSteadily given events later agent t caller site ops actor) where
  abbrev pub fixed : Fixed
  fixed = fixed_of given

  abbrev pub first : World
  first = run given events

  abbrev pub table : PlainTable
  table = table_of given events

  abbrev pub task : Task
  task = its given events later agent t caller site ops actor goes

  abbrev pub its_sight : Sight
  its_sight = sight given events later agent t caller site ops actor goes

  abbrev pub Was' : ℕ → Prefix → Type 0
  Was' = Known given events later agent t caller site ops actor goes

  abbrev pub world_at : List Event → World
  world_at so_far = world_after given events agent caller site ops so_far

  pub same_service : (table_of given events).service ≡ (fixed_of given).service
  same_service = service_stays (rows.opening given) (decisions given events)

  abbrev pub Right : Ending → Type 0
  Right ended = (suites : Suites) × EndsRight fixed first its_sight table task actor.agent.cache suites ended

  abbrev pub PhaseIn : Suites → Cache → Phase → Type 0
  PhaseIn suites now phase = PhaseStands fixed first its_sight table task actor.agent.cache Was' (ground given events later agent t caller site ops actor goes) suites now phase

  -- what it does
  abbrev pub StandsIn : Cache → Option Doing → Type 0
  StandsIn now None = Unit {0}
  StandsIn now (Some (RunningSweep sweep_run)) = ⊥
  StandsIn now (Some (Running txn_run)) = (txn_run.task ≡ task) × PhaseIn txn_run.suites now txn_run.phase

  pub record Course (so_far : List Event) : Type 0 where
    pub here : Actor
    pub there : actor_at (world_after given events agent caller site ops so_far) agent ≡ Some here
    pub stands : StandsIn here.agent.cache here.agent.doing
    pub busy : is_idle here.agent.doing ≡ false
    pub told : List agents.Event
    pub is : here.agent ≡ after_all (fixed_of given) (begin (fixed_of given) actor.agent (Transaction caller site ops)) told
    pub count : here.agent.count ≡ actor.agent.count + 1
    pub locks : HasWhereOpen given events later agent t caller site ops actor goes (world_after given events agent caller site ops so_far)
    pub shown : ShowsWhereLocked given events later agent t caller site ops actor goes (world_after given events agent caller site ops so_far)
    pub spared : IsSpared given events later agent t caller site ops actor goes so_far

  -- so it runs the transaction
  pub record RunsIt (so_far : List Event) (c : Course so_far) : Type 0 where
    pub txn_run : TransactionRun
    pub running : c.here.agent.doing ≡ Some (Running txn_run)
    pub at : (txn_run.task ≡ task) × PhaseIn txn_run.suites c.here.agent.cache txn_run.phase

  pub runs_it : (so_far : List Event) (c : Course so_far) → RunsIt so_far c
  runs_it so_far c = search arith

  runs_of : (so_far : List Event) (c : Course so_far) → runs t c.here.agent.doing ≡ true
  runs_of so_far c =
      let r = runs_it so_far c in
      ap (runs t) r.running ∙ eq-eqb r.txn_run.task.t t (ap (λ (task : Task). task.t) r.at.0 ∙ number given events later agent t caller site ops actor goes)

  -- and is at work while its end is not fixed
  pub open_works : (so_far : List Event) (c : Course so_far) (r : RunsIt so_far c) → IsOpenPhase r.txn_run.phase → IsAtWork (world_after given events agent caller site ops so_far) agent t
  open_works so_far c r open' =
      at_work (world_at so_far) agent t c.here c.there (subst IsOpen (sym r.running) open')
      (ap (runs t) r.running ∙ eq-eqb r.txn_run.task.t t (ap (λ (task : Task). task.t) r.at.0 ∙ number given events later agent t caller site ops actor goes))

  pub course_runs : (so_far : List Event) (c : Course so_far) → is_running (world_after given events agent caller site ops so_far) agent t ≡ true
  course_runs so_far c = ap (running_in t) c.there ∙ runs_of so_far c

  pub next_is : (so_far : List Event) (event : Event) → world_after given events agent caller site ops (so_far ++ event ∷ []) ≡ (step (fixed_of given) (world_after given events agent caller site ops so_far) event).world
  next_is so_far event = after_append (fixed_of given) so_far (event ∷ []) (begun_world given events agent caller site ops)

  -- where it was told of a lock, the server was open to it
  abbrev pub NewOpen : List Event → Event → Type 0
  NewOpen so_far event = (server z : ℕ) (told : Told (fixed_of given) (world_after given events agent caller site ops so_far) event t server) → told.told.suite ≡ z
      → opens given events later agent t caller site ops actor goes z (first_asked given events later agent t caller site ops actor goes z) server ≡ true

  -- and it shows what it showed
  abbrev pub NewShown : List Event → Event → Type 0
  NewShown so_far event = (server z : ℕ) (told : Told (fixed_of given) (world_after given events agent caller site ops so_far) event t server) → told.told.suite ≡ z
      → shows_same (server_at (world_after given events agent caller site ops (so_far ++ event ∷ [])) server) (server_at (run given events) server) z

  -- an event tells it of no lock
  abbrev pub TellsNone : List Event → Event → Type 0
  TellsNone so_far event = (server : ℕ) → Told (fixed_of given) (world_after given events agent caller site ops so_far) event t server → ⊥

  module _ (so_far rest : List Event) (event : Event) (split : later ≡ so_far ++ event ∷ rest) (c : Course so_far) where
    pub running_now : is_running (world_after given events agent caller site ops so_far) agent t ≡ true
    running_now = course_runs so_far c

    -- nothing is taken of it while its end is not fixed
    calm_now : IsAtWork (world_after given events agent caller site ops so_far) agent t → IsCalm given events later agent t caller site ops actor goes so_far event
    calm_now work =
        let w = world_after given events agent caller site ops so_far in
        both_so (hinders_itself given agent w event) (robs given agent t w event) (bereaves given agent t w event) (goes.free_hand so_far rest event split work)
        (goes.kept so_far rest event split work
        (λ server z on. opens_up given events later agent t caller site ops actor goes z (first_asked given events later agent t caller site ops actor goes z) server (c.locks server z on)))

    pub spared_on : IsSpared given events later agent t caller site ops actor goes (so_far ++ event ∷ [])
    spared_on front back other is work = search (parted, calm_now, arith)

    -- its locks are where it was open
    pub locks_on : NewOpen so_far event → HasWhereOpen given events later agent t caller site ops actor goes (world_after given events agent caller site ops (so_far ++ event ∷ []))
    locks_on new server z on =
        ⊎_elim (λ old. c.locks server z old) (λ told. new server z told.0 told.1)
        (told_on (fixed_of given) (world_after given events agent caller site ops so_far) event server t z (subst (λ w. On (locks_at w server) t z) (next_is so_far event) on))

    -- and what is stored there is what it was told
    pub shown_on : NewShown so_far event → ShowsWhereLocked given events later agent t caller site ops actor goes (world_after given events agent caller site ops (so_far ++ event ∷ []))
    shown_on new server z on =
        ⊎_elim (λ old. of old (server_at (world_after given events agent caller site ops so_far) server)
        (server_at (world_after given events agent caller site ops (so_far ++ event ∷ [])) server) (server_at first server) refl refl refl (c.shown server z old))
        (λ told. new server z told.0 told.1)
        (told_on (fixed_of given) (world_after given events agent caller site ops so_far) event server t z (subst (λ w. On (locks_at w server) t z) (next_is so_far event) on))
      where
        of : On (locks_at (world_after given events agent caller site ops so_far) server) t z → (was now begun : Option State) → server_at (world_after given events agent caller site ops so_far) server ≡ was
            → server_at (world_after given events agent caller site ops (so_far ++ event ∷ [])) server ≡ now → server_at (run given events) server ≡ begun
            → shows_same (server_at (world_after given events agent caller site ops so_far) server) (server_at (run given events) server) z
            → shows_same (server_at (world_after given events agent caller site ops (so_far ++ event ∷ [])) server) (server_at (run given events) server) z
        of old was None begun is_was is_now is_begun same = subst (λ found. shows_same found (server_at (run given events) server) z) (sym is_now) tt
        of old None (Some new) begun is_was is_now is_begun same = absurd (subst (λ found. Has (locks_in found) old.lock) is_was old.has)
        of old (Some st) (Some new) None is_was is_now is_begun same =
            subst (λ found. shows_same found (server_at (run given events) server) z) (sym is_now) (subst (λ found. shows_same (Some new) found z) (sym is_begun) tt)
        of old (Some st) (Some new) (Some begun) is_was is_now is_begun same =
            let w = world_after given events agent caller site ops so_far in
            let before : On st.locks t z = record { lock = old.lock; has = subst (λ found. Has (locks_in found) old.lock) is_was old.has; of_it = old.of_it; on_it = old.on_it } in
            let after : On new.locks t z = record { lock = on.lock; has = subst (λ found. Has (locks_in found) on.lock) is_now on.has; of_it = on.of_it; on_it = on.on_it } in
            let consistent = all_consistent given (events ++ Begin agent (Transaction caller site ops) ∷ so_far) server st
            (ap (λ w. server_at w server) (sym (run_at given events later agent t caller site ops actor goes.can goes.there goes.begins so_far)) ∙ is_was) in
            let copy = copy_stays (fixed_of given) w event server t z st new is_was (ap (λ w. server_at w server) (sym (next_is so_far event)) ∙ is_now) consistent before after in
            let was_same : shows_same (Some st) (Some begun) z = subst (λ found. shows_same found (Some begun) z) is_was (subst (λ found. shows_same (server_at w server) found z) is_begun same) in
            subst (λ found. shows_same found (server_at (run given events) server) z) (sym is_now)
            (subst (λ found. shows_same (Some new) found z) (sym is_begun) (ap (λ (copy : Replica). copy.prefix) copy ∙ was_same.0, ap (λ (copy : Replica). copy.dver) copy ∙ was_same.1))

    -- ---- an event that is not its own

    small_all : (i : ℕ) (a : Agent) → agent_at (world_after given events agent caller site ops so_far) i ≡ Some a → i < 64
    small_all i a at = (holds_of given goes.can.accepted (events ++ Begin agent (Transaction caller site ops) ∷ so_far)).agents.small i a
        (ap (λ w. agent_at w i) (sym (run_at given events later agent t caller site ops actor goes.can goes.there goes.begins so_far)) ∙ at)

    pub others_tell : (event ≡ Step agent → ⊥) → TellsNone so_far event
    others_tell apart server told = of event refl told
      where
        of : (same : Event) → event ≡ same → Told (fixed_of given) (world_after given events agent caller site ops so_far) event t server → ⊥
        of (Begin i job') is told = none-some told.what (sym (becomes_none (world_after given events agent caller site ops so_far) i (λ a. begin (fixed_of given) a job') (actor_at (world_after given events agent caller site ops so_far) i))
            ∙ ap (λ event. (step (fixed_of given) (world_after given events agent caller site ops so_far) event).done.served) (sym is) ∙ told.served)
        of (Forget i site') is told = none-some told.what (sym (becomes_none (world_after given events agent caller site ops so_far) i (λ a. forget a site') (actor_at (world_after given events agent caller site ops so_far) i))
            ∙ ap (λ event. (step (fixed_of given) (world_after given events agent caller site ops so_far) event).done.served) (sym is) ∙ told.served)
        of (Lack i why) is told = none-some told.what (sym (lacks_none (fixed_of given) (world_after given events agent caller site ops so_far) i why (actor_at (world_after given events agent caller site ops so_far) i))
            ∙ ap (λ event. (step (fixed_of given) (world_after given events agent caller site ops so_far) event).done.served) (sym is) ∙ told.served)
        of (Crash at) is told = poll_not t told.told.suite told.told.mode
            (sym (operates_it (world_after given events agent caller site ops so_far) at request.Crash (server_at (world_after given events agent caller site ops so_far) at) told.what
            (ap (λ event. (step (fixed_of given) (world_after given events agent caller site ops so_far) event).done.served) (sym is) ∙ told.served)) ∙ told.told.poll)
          where
            poll_not : (u suite : ℕ) (mode : LockMode) → request.Crash ≡ request.Poll u suite mode → ⊥
            poll_not u suite mode is = cc
        of (Return at) is told = poll_not t told.told.suite told.told.mode
            (sym (operates_it (world_after given events agent caller site ops so_far) at request.Return (server_at (world_after given events agent caller site ops so_far) at) told.what
            (ap (λ event. (step (fixed_of given) (world_after given events agent caller site ops so_far) event).done.served) (sym is) ∙ told.served)) ∙ told.told.poll)
          where
            poll_not : (u suite : ℕ) (mode : LockMode) → request.Return ≡ request.Poll u suite mode → ⊥
            poll_not u suite mode is = cc
        of (Step other) is told =
            let asks = step_asks (fixed_of given) (world_after given events agent caller site ops so_far) other (actor_at (world_after given events agent caller site ops so_far) other) told.what
            (ap (λ event. (step (fixed_of given) (world_after given events agent caller site ops so_far) event).done.served) (sym is) ∙ told.served) in
            let runs_so = run_at given events later agent t caller site ops actor goes.can goes.there goes.begins so_far in
            ⊎_elim
            (λ self.
            let named : (t == self.task.t) ≡ true = ap (names self.task.t) (sym told.told.poll) ∙ self.named in
            let last = self.last in
            let its_number = (its_begin given events later agent t caller site ops actor goes.can goes.there goes.begins).0 in
            let same = eqb-true t self.task.t named in
            let small = small_all other asks.0.agent (ap agent_of asks.1) in
            let mine = small_all agent c.here.agent (ap agent_of c.there) in
            let places = same_place asks.0.agent.count (actor.agent.count + 1) other agent (omega (arith, last, same, its_number)) small mine in
            apart (is ∙ ap Step places.1))
            (λ sweeps. false≢true (sym (ap may_sweep told.told.poll) ∙ sweeps.swept))
            (agents_ask_for_themselves given goes.can.accepted (events ++ Begin agent (Transaction caller site ops) ∷ so_far) other asks.0 told.what.server told.what.request.value (ap (λ w. actor_at w other) (sym runs_so) ∙ asks.1) asks.2)

    -- what it hinted it hints no more than before
    forgets : (site' : ℕ) (now : Cache) (doing : Option Doing) → StandsIn now doing → StandsIn (forgotten site' now) doing
    forgets site' now doing h3 = grind (hint_forgotten, arith)

    -- it goes on, and was told no more, or to forget a site
    pub aside_on : Apart given agent (world_after given events agent caller site ops so_far) c.here c.there c.busy (step (fixed_of given) (world_after given events agent caller site ops so_far) event) → TellsNone so_far event
        → (on : Course (so_far ++ event ∷ [])) × ((on.told ≡ c.told) ⊎ ((site' : ℕ) × (on.told ≡ c.told ++ agents.Forget site' ∷ [])))
    aside_on apart none = of apart.is
      where
        of : (apart.new.agent ≡ c.here.agent) ⊎ ((site' : ℕ) × (apart.new.agent ≡ forget c.here.agent site')) → (on : Course (so_far ++ event ∷ [])) × ((on.told ≡ c.told) ⊎ ((site' : ℕ) × (on.told ≡ c.told ++ agents.Forget site' ∷ [])))
        of (inl same) = (
          record {
            here = apart.new;
            there = ap (λ w. actor_at w agent) (next_is so_far event) ∙ apart.now;
            stands = subst (λ (a : Agent). StandsIn a.cache a.doing) (sym same) c.stands;
            busy = ap (λ (a : Agent). is_idle a.doing) same ∙ c.busy;
            told = c.told;
            is = same ∙ c.is;
            count = ap (λ (a : Agent). a.count) same ∙ c.count;
            locks = locks_on (λ server z told same. absurd (none server told));
            shown = shown_on (λ server z told same. absurd (none server told));
            spared = spared_on;
          },
          inl refl,
        )
        of (inr gone) = (
          record {
            here = apart.new;
            there = ap (λ w. actor_at w agent) (next_is so_far event) ∙ apart.now;
            stands = subst (λ (a : Agent). StandsIn a.cache a.doing) (sym gone.1) (forgets gone.0 c.here.agent.cache c.here.agent.doing c.stands);
            busy = ap (λ (a : Agent). is_idle a.doing) gone.1 ∙ c.busy;
            told = c.told ++ agents.Forget gone.0 ∷ [];
            is = gone.1 ∙ ap (λ a. forget a gone.0) c.is ∙ sym (after-append (fixed_of given) (begin (fixed_of given) actor.agent (Transaction caller site ops)) c.told (agents.Forget gone.0));
            count = ap (λ (a : Agent). a.count) gone.1 ∙ c.count;
            locks = locks_on (λ server z told same. absurd (none server told));
            shown = shown_on (λ server z told same. absurd (none server told));
            spared = spared_on;
          },
          inr (gone.0, refl),
        )

    pub apart_on : Apart given agent (world_after given events agent caller site ops so_far) c.here c.there c.busy (step (fixed_of given) (world_after given events agent caller site ops so_far) event) → (event ≡ Step agent → ⊥)
        → (on : Course (so_far ++ event ∷ [])) × ((on.told ≡ c.told) ⊎ ((site' : ℕ) × (on.told ≡ c.told ++ agents.Forget site' ∷ [])))
    apart_on apart other = aside_on apart (others_tell other)
