-- Locks in a calm run: one that was granted stands while its transaction is at work, and keeps out what clashes; and each that there is was granted.
use Rattle.law_run_recovers.proofs.Vocabulary.{◌≡◌, inl, inr, ⊎_elim, ℕ, Bool, true, false, cond, List, [], ◌∷◌, ◌++◌, append_assoc, append-nil, Option, Some, None, is_some, refl, sym, ap, subst, ◌∙◌, arith, ◌==◌, ◌&&◌, ◌||◌, not, filter, map}
use Rattle.law_run_recovers.proofs.Vocabulary.{slice_get, slice_set, false≢true, and_parts, and_from, eqb-true, eq-eqb, nat_tests, Identity, Opening, LockMode, serves, stronger, AuditItem, Op, Lock, Request, Verdict, Stamped, copy_of, intended}
use Rattle.law_run_recovers.proofs.Vocabulary.{State, record_of, reply_of, locking_reply, after_up, after_down, after_locking, after_record, prepares, served, Has, filter_has, between_has, map_has, any_has, has_any, find_none, mode_of, Transaction}
use Rattle.law_run_recovers.proofs.Vocabulary.{fixed_of, Served, Event, Begin, Step, Crash, Actor, World, server_at, actor_at, step, run, same_or, at_puts, step_is, puts_in, AllAt, MayAsk, asks_servers, clashes, locks_in, locks_at, takes, robs}
use Rattle.law_run_recovers.proofs.Vocabulary.{hinders_itself, world_after, drops, bereaves, serves_itself}
use Rattle.rep_core.specs.Locks.{locked, in_the_way, has_lock, is_own, raised, raised_lock, with_lock, before, prepared_lock}
use Rattle.rep_core.specs.Service.{after}
use Rattle.rep_core.specs.declared.request.Request.TheVariants as request
use Rattle.rep_core.specs.Serving as serving
use Rattle.law_run_recovers.proofs.AtWork.{takes_nothing}
use Rattle.law_run_recovers.proofs.Keeps.{IsAtWork, run_at, step_asks}
use Rattle.law_run_recovers.proofs.Owned.{AllOwned, MayLock, owned_stays}
use Rattle.law_run_recovers.proofs.Serves.{Serves, event_serves}
use Rattle.law_run_recovers.proofs.StepsServed.{OwnTook, own_took}
use Rattle.law_run_recovers.proofs.MeetCalm.{Fair, run_next, up_at}
use Rattle.law_run_recovers.proofs.MeetQuiet.{GoesQuietly, next_is}
use Rattle.law_run_recovers.proofs.MeetTold.{for_lock, says_held}
use Rattle.law_run_recovers.proofs.Picks.{along}

-- ---- a server

-- the transaction has a lock on the suite in the mode, or in a stronger one
pub record HasMode (t z : ℕ) (mode : LockMode) (locks : List Lock) : Type 0 where
  pub lock : Lock
  pub has : Has locks lock
  pub own : is_own t z lock ≡ true
  pub strong : serves lock.mode mode ≡ true

serves_stronger : (a m : LockMode) → serves (stronger a m) m ≡ true
serves_stronger a m = search arith

stronger_serves : (a more mode : LockMode) → serves a mode ≡ true → serves (stronger a more) mode ≡ true
stronger_serves a more mode h3 = search arith

has_amid : {X : Type 0} (xs : List X) (y : X) (ys : List X) → Has (xs ++ y ∷ ys) y
has_amid [] y ys = inl refl
has_amid (x ∷ xs) y ys = inr (has_amid xs y ys)

-- once it is locked it has one
locked_has : (t z : ℕ) (mode : LockMode) (locks : List Lock) → HasMode t z mode (locked t z mode locks)
locked_has t z mode locks = of (has_lock t z locks) refl
  where
    new : Lock
    new = record { t = t; suite = z; mode = mode; prepared = false }

    own_new : is_own t z new ≡ true
    own_new = and_from (t == t) (z == z) (eq-eqb t t refl) (eq-eqb z z refl)

    of : (b : Bool) → has_lock t z locks ≡ b → HasMode t z mode (cond b (raised t z mode locks) (with_lock (record { t = t; suite = z; mode = mode; prepared = false }) locks))
    of true is =
        let one = any_has (is_own t z) locks is in
        record {
          lock = raised_lock t z mode one.0;
          has = map_has (raised_lock t z mode) locks one.0 one.1;
          own = one.2;
          strong = ap (λ b. serves (cond b (stronger one.0.mode mode) one.0.mode) mode) one.2 ∙ serves_stronger one.0.mode mode;
        }
    of false is = record { lock = new; has = has_amid (filter (λ other. before other new) locks) new _; own = own_new; strong = serves_itself mode }

module _ (t z : ℕ) (mode : LockMode) where
  -- and keeps it, whoever locks
  mode_locked : (u s : ℕ) (m : LockMode) (locks : List Lock) → HasMode t z mode locks → HasMode t z mode (locked u s m locks)
  mode_locked u s m locks is = of (has_lock u s locks)
    where
      raised_serves : (b : Bool) → serves (cond b (stronger is.lock.mode m) is.lock.mode) mode ≡ true
      raised_serves b = search (stronger_serves, arith)

      of : (b : Bool) → HasMode t z mode (cond b (raised u s m locks) (with_lock (record { t = u; suite = s; mode = m; prepared = false }) locks))
      of true = record { lock = raised_lock u s m is.lock; has = map_has (raised_lock u s m) locks is.lock is.has; own = is.own; strong = raised_serves (is_own u s is.lock) }
      of false = record {
        lock = is.lock;
        has = between_has (λ other. before other (record { t = u; suite = s; mode = m; prepared = false })) locks (record { t = u; suite = s; mode = m; prepared = false }) is.lock is.has;
        own = is.own;
        strong = is.strong;
      }

  module _ (st : State) (is : HasMode t z mode st.locks) where
    own_t : is.lock.t ≡ t
    own_t = eqb-true is.lock.t t (and_parts (is.lock.t == t) (is.lock.suite == z) is.own).0

    passed : (p : Lock → Bool) → p is.lock ≡ true → HasMode t z mode (filter p st.locks)
    passed p passes = record { lock = is.lock; has = filter_has p st.locks is.lock is.has passes; own = is.own; strong = is.strong }

    locking : (other : Option Lock) (u s : ℕ) (m : LockMode) → HasMode t z mode (after_locking other u s m st).locks
    locking other u s m = search (mode_locked, arith)

    recorded_same : (old : Option Verdict) (u : ℕ) (v : Verdict) (item : Option AuditItem) → HasMode t z mode (after_record old u v item st).locks
    recorded_same old u v item = search arith

    not_named : (u : ℕ) → (u == t) ≡ false → (is.lock.t == u) ≡ false
    not_named u apart = search arith

    both_not : (a b : Bool) → (a && b) ≡ false → b ≡ true → a ≡ false
    both_not a b h2 h3 = search arith

    finish_spares : (u : ℕ) (v : Verdict) → takes t st (request.Finish u v) ≡ false → not (is.lock.t == u) ≡ true
    finish_spares u v calm = search (not_named, both_not, has_any, eq-eqb, own_t, arith)

    break_spares : (u s : ℕ) → takes t st (request.Break u s) ≡ false → not (is_own u s is.lock && not is.lock.prepared) ≡ true
    break_spares u s calm = search (and_parts, eqb-true, own_t, has_any, and_from, eq-eqb, false≢true, arith)

    crash_spares : drops t st request.Crash ≡ false → is.lock.prepared ≡ true
    crash_spares calm = search (false≢true, has_any, and_from, eq-eqb, own_t, arith)

    up_keeps : (asked : Request) → takes t st asked ≡ false → drops t st asked ≡ false → HasMode t z mode (after_up st asked).locks
    up_keeps (request.Poll u s m) calm other = locking (in_the_way u s m st.locks) u s m
    up_keeps (request.Upgrade u s) calm other = search (locking, arith)
    up_keeps (request.Prepare u parts) calm other = of (prepares st u parts)
      where
        of : (b : Bool) → HasMode t z mode (cond b (record st { store = intended u parts st.store; locks = map (prepared_lock u parts) st.locks }) st).locks
        of true = record { lock = prepared_lock u parts is.lock; has = map_has (prepared_lock u parts) st.locks is.lock is.has; own = is.own; strong = is.strong }
        of false = is
    up_keeps (request.Decide u decision) calm other = recorded_same (record_of st u) u _ _
    up_keeps (request.Resolve u) calm other = recorded_same (record_of st u) u _ _
    up_keeps (request.Finish u v) calm other = passed (λ lock. not (lock.t == u)) (finish_spares u v calm)
    up_keeps (request.Break u s) calm other = passed (λ lock. not (is_own u s lock && not lock.prepared)) (break_spares u s calm)
    up_keeps request.Crash calm other = passed (λ lock. lock.prepared) (crash_spares other)
    up_keeps another calm other = is

    -- what takes nothing of it leaves it the lock
    pub after_keeps : (asked : Request) → st.up ≡ true → takes t st asked ≡ false → drops t st asked ≡ false → HasMode t z mode (after st asked).locks
    after_keeps asked up calm other = subst (λ b. HasMode t z mode (cond b (after_up st asked) (after_down st asked)).locks) (sym up) (up_keeps asked calm other)

-- ---- who is told Held

pub record Granted (t z : ℕ) (st : State) (asked : Request) : Type 0 where
  pub free : in_the_way t z (mode_of asked) st.locks ≡ None
  pub has : HasMode t z (mode_of asked) (after st asked).locks

granted_poll : (st : State) (t z : ℕ) (mode : LockMode) → says_held (locking_reply (in_the_way t z mode st.locks) (copy_of st.store z)) ≡ true
    → (in_the_way t z mode st.locks ≡ None) × HasMode t z mode (after_locking (in_the_way t z mode st.locks) t z mode st).locks
granted_poll st t z mode said = search (says_held, locked_has, false≢true, arith)

pub granted : (t z : ℕ) (st : State) (asked : Request) → st.up ≡ true → for_lock t z asked ≡ true → says_held (reply_of st asked) ≡ true → Granted t z st asked
granted t z st asked h4 h5 h6 = search (and_parts, granted_poll, says_held, eqb-true, false≢true, arith)

-- where a lock of another that clashes is there, none is free
pub keeps_out : (t u z : ℕ) (m k : LockMode) (locks : List Lock) → (t == u) ≡ false → HasMode t z m locks → clashes (z, m) (z, k) ≡ true → in_the_way u z k locks ≡ None → ⊥
keeps_out t u z m k locks apart is clash free = search (false≢true, find_none, and_parts, eqb-true, nat_tests, arith)

-- ---- in its run

module _ (given : Opening) (base events later : List Event) (agent t : ℕ) (caller : Identity) (site : ℕ) (ops : List Op) (actor : Actor)
    (goes : GoesQuietly given base events later agent t caller site ops actor) (z : ℕ) (mode : LockMode) (server : ℕ) where
  abbrev world_at : List Event → World
  world_at so_far = world_after given events agent caller site ops so_far

  abbrev pub HasIt : World → Type 0
  HasIt w = HasMode t z mode (locks_at w server)

  keeps_it : (so_far rest : List Event) (event : Event) → later ≡ so_far ++ event ∷ rest → IsAtWork (world_after given events agent caller site ops so_far) agent t → HasIt (world_after given events agent caller site ops so_far)
      → HasIt (world_after given events agent caller site ops (so_far ++ event ∷ []))
  keeps_it so_far rest event split work is =
      subst HasIt (sym (next_is given base events later agent t caller site ops actor goes so_far event))
      (⊎_elim (λ same. subst (λ servers. HasMode t z mode (locks_in (slice_get servers server))) (sym same) is) of (event_serves (fixed_of given) (world_at so_far) event))
    where
      is_run : world_after given events agent caller site ops so_far ≡ run given (events ++ Begin agent (Transaction caller site ops) ∷ so_far)
      is_run = run_at given events later agent t caller site ops actor goes.can goes.there goes.begins so_far

      of : Serves (world_after given events agent caller site ops so_far) (step (fixed_of given) (world_after given events agent caller site ops so_far) event)
          → HasIt (step (fixed_of given) (world_after given events agent caller site ops so_far) event).world
      of serves =
          let puts = puts_in (world_at so_far).servers serves.target serves.st (served serves.st serves.asked) serves.at in
          let up = (goes.up so_far (event ∷ rest) split serves.target serves.st serves.at).0 in
          let none = takes_nothing given goes.can.accepted (events ++ Begin agent (Transaction caller site ops) ∷ so_far) agent t (subst (λ w. IsAtWork w agent t) is_run work) event
          (subst (λ w. (hinders_itself given agent w event || (robs given agent t w event || bereaves given agent t w event)) ≡ false) is_run (goes.spared so_far rest event split work)) _ serves.st
          (ap (λ w. (step (fixed_of given) w event).done.served) (sym is_run) ∙ serves.done) (ap (λ w. server_at w serves.target) (sym is_run) ∙ serves.at) up in
          subst (λ servers. HasMode t z mode (locks_in (slice_get servers server))) (sym serves.servers)
          (⊎_elim
          (λ here.
          subst (λ s. HasMode t z mode (locks_in (slice_get (slice_set (world_at so_far).servers serves.target (served serves.st serves.asked)) s))) (sym here)
          (subst (λ found. HasMode t z mode (locks_in found)) (sym puts.here)
          (after_keeps t z mode serves.st (subst (λ locks. HasMode t z mode locks) (ap (locks_at (world_at so_far)) here ∙ ap locks_in serves.at) is) serves.asked.value up none.0 none.1)))
          (λ apart. subst (λ found. HasMode t z mode (locks_in found)) (sym (puts.apart server apart)) is)
          (same_or server serves.target))

  -- from a moment on, as long as it is at work
  pub keeps_to : (so_far mid rest : List Event) → later ≡ (so_far ++ mid) ++ rest → ((xs ys : List Event) (e : Event) → mid ≡ xs ++ e ∷ ys → IsAtWork (world_after given events agent caller site ops (so_far ++ xs)) agent t)
      → HasIt (world_after given events agent caller site ops so_far) → HasIt (world_after given events agent caller site ops (so_far ++ mid))
  keeps_to so_far mid rest split works is =
      along mid (λ xs. HasIt (world_at (so_far ++ xs)))
      (λ xs ys e parts has.
      subst (λ all. HasIt (world_at all)) (append_assoc so_far xs (e ∷ []))
      (keeps_it (so_far ++ xs) (ys ++ rest) e
      (split ∙ ap (λ mid. (so_far ++ mid) ++ rest) parts ∙ ap (λ all. all ++ rest) (sym (append_assoc so_far xs (e ∷ ys))) ∙ append_assoc (so_far ++ xs) (e ∷ ys) rest)
      (works xs ys e parts) has))
      (subst (λ all. HasIt (world_at all)) (sym (append-nil so_far)) is) mid [] (sym (append-nil mid))

-- ---- each lock was granted

module _ (given : Opening) (events later : List Event) (fair : Fair given events later) (O : ℕ → ℕ → ℕ → LockMode → Type 0)
    (asks : (so_far rest : List Event) (i : ℕ) → later ≡ so_far ++ Step i ∷ rest → (what : Served) → (step (fixed_of given) (run given (events ++ so_far)) (Step i)).done.served ≡ Some what → (t z : ℕ)
    → for_lock t z what.request.value ≡ true → says_held what.reply.value ≡ true → O what.server t z (mode_of what.request.value)) where
  abbrev OwnedAt : ℕ → State → Type 0
  OwnedAt s st = AllOwned (O s) st.locks

  -- what a server makes of a request: its lock is of the kind where it was granted
  module _ (s : ℕ) (st : State) (asked : Stamped Request) (up : st.up ≡ true) (room : serving.is_full st asked ≡ false) (all : AllOwned (O s) st.locks)
      (may : (t z : ℕ) → for_lock t z asked.value ≡ true → says_held (reply_of st asked.value) ≡ true → O s t z (mode_of asked.value)) where
    unchanged : (after st asked.value).locks ≡ st.locks → AllOwned (O s) (served st asked).locks
    unchanged same = subst (AllOwned (O s)) (sym same) all

    granted_so : MayLock (O s) asked.value → AllOwned (O s) (served st asked).locks
    granted_so so = subst (λ (st : State). AllOwned (O s) st.locks) (step_is st asked room) (owned_stays (O s) st asked so all)

    lock_same : (u z : ℕ) → for_lock u z (request.Upgrade u z) ≡ true
    lock_same u z = and_from (u == u) (z == z) (eq-eqb u u refl) (eq-eqb z z refl)

    by_poll : (u z : ℕ) (mode : LockMode) → asked.value ≡ request.Poll u z mode → AllOwned (O s) (served st asked).locks
    by_poll u z mode is = search (granted_so, for_lock, lock_same, says_held, unchanged, arith)

    by_upgrade : (u z : ℕ) → asked.value ≡ request.Upgrade u z → AllOwned (O s) (served st asked).locks
    by_upgrade u z is = search (unchanged, granted_so, for_lock, lock_same, says_held, arith)

    owned_served : (value : Request) → asked.value ≡ value → AllOwned (O s) (served st asked).locks
    owned_served value h1 = search (by_poll, by_upgrade, granted_so, arith)

  module _ (so_far rest : List Event) (event : Event) (split : later ≡ so_far ++ event ∷ rest) (all : AllAt OwnedAt (run given (events ++ so_far))) where
    abbrev w : World
    w = run given (events ++ so_far)

    owned_step : (i : ℕ) → event ≡ Step i → AllAt OwnedAt (step (fixed_of given) (run given (events ++ so_far)) (Step i)).world
    owned_step i is = ⊎_elim
        (λ same s st at. all s st (ap (λ servers. slice_get servers s) (sym same) ∙ at))
        (λ serves.
        let asked = step_asks (fixed_of given) w i (actor_at w i) _ serves.done in
        let took = own_took (fixed_of given) w i asked.0 asked.1 (ap is_some serves.done) in
        by took)
        (event_serves (fixed_of given) w (Step i))
      where
        split_i : later ≡ so_far ++ Step i ∷ rest
        split_i = split ∙ ap (λ event. so_far ++ event ∷ rest) is

        by : {here : Actor} {there : actor_at (run given (events ++ so_far)) i ≡ Some here} → OwnTook (fixed_of given) (run given (events ++ so_far)) i here there
            (step (fixed_of given) (run given (events ++ so_far)) (Step i)) → AllAt OwnedAt (step (fixed_of given) (run given (events ++ so_far)) (Step i)).world
        by {here = here} took s st at =
            let stamped : Stamped Request = record { stamp = here.stamp; value = took.asked.1 } in
            let puts = puts_in w.servers took.asked.0 took.st (served took.st stamped) took.at in
            elim (at_puts (slice_get w.servers) (slice_get (slice_set w.servers took.asked.0 (served took.st stamped))) took.asked.0 took.st (served took.st stamped) puts s st (ap (λ servers. slice_get servers s) (sym took.servers) ∙ at)) [
              | inl here' ↦ subst (λ s. OwnedAt s st) (sym here'.at) (subst (OwnedAt took.asked.0) (sym here'.is)
                  (owned_served took.asked.0 took.st stamped (up_at given events later fair so_far (Step i ∷ rest) split_i took.asked.0 took.st took.at) took.room (all took.asked.0 took.st took.at)
                  (λ t z lock held. asks so_far rest i split_i _ took.done t z lock held) took.asked.1 refl))
              | inr there' ↦ all s st there'.was
            ]

    owned_other : (event : Event) → MayAsk (fixed_of given) (λ s asked. MayLock (O s) asked) (run given (events ++ so_far)) event → AllAt OwnedAt (step (fixed_of given) (run given (events ++ so_far)) event).world
    owned_other event may = asks_servers (fixed_of given) OwnedAt (λ s asked. MayLock (O s) asked) (λ s st asked may all. owned_stays (O s) st asked may all) w all event may

    owned_next : (same : Event) → event ≡ same → AllAt OwnedAt (step (fixed_of given) (run given (events ++ so_far)) same).world
    owned_next same h1 = search (owned_step, owned_other, arith)

  pub owned_at : ((s : ℕ) (st : State) → server_at (run given (events ++ [])) s ≡ Some st → AllOwned (O s) st.locks) → (so_far rest : List Event) → later ≡ so_far ++ rest
      → (s : ℕ) (st : State) → server_at (run given (events ++ so_far)) s ≡ Some st → AllOwned (O s) st.locks
  owned_at first = along later (λ so_far. AllAt OwnedAt (run given (events ++ so_far)))
      (λ so_far rest event split all. subst (AllAt OwnedAt) (sym (run_next given events later fair so_far event)) (owned_next so_far rest event split all event refl)) first
