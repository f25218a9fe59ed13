-- One that meets another and is refused a lock: it asked for it, and a lock of the other was in the way there.
use Rattle.law_run_recovers.proofs.Vocabulary.{List, None, Option, Some, ap, append_assoc, false, is_some, not, refl, subst, sym, true, ℕ, ◌++◌, ◌==◌, ◌∙◌, ◌∷◌, ◌≡◌, and_parts, eq-eqb, eqb-true, false≢true, arith, same_Some, find_some, Has}
use Rattle.law_run_recovers.proofs.Vocabulary.{conflicts, in_the_way, locking_reply, reply_of, answer_of, State, copy_of, Lock, Request, Stamped, run, Actor, World, actor_at, server_at, step, Served, Event, Begin, Step, mode_of, serves, Opening}
use Rattle.law_run_recovers.proofs.Vocabulary.{LockMode, fixed_of, next_of, Transaction, Begun, clashes, votes_now, asks_for, begun_world}
use Rattle.rep_core.specs.declared.request.Request.TheVariants as request
use Rattle.rep_core.specs.declared.reply.Reply.TheVariants as reply
use Rattle.law_run_recovers.proofs.Keeps.{step_asks}
use Rattle.law_run_recovers.proofs.StepsServed.{OwnTook, own_took}
use Rattle.law_run_recovers.proofs.MeetBoth.{its_event, held_in, reached_then}
use Rattle.law_run_recovers.proofs.MeetCalm.{Calm, IsOurs, up_at}
use Rattle.law_run_recovers.proofs.MeetReach.{Reached}
use Rattle.law_run_recovers.proofs.MeetRun.{run_is}
use Rattle.law_run_recovers.proofs.MeetTold.{for_lock, says_busy, refuses, some_step, Found, found_in, four}

-- ---- a server

-- a lock that is in the way of one on a suite in a mode
pub record Way (t z : ℕ) (mode : LockMode) (locks : List Lock) : Type 0 where
  pub lock : Lock
  pub has : Has locks lock
  pub suite : lock.suite ≡ z
  pub not_own : lock.t ≡ t → ⊥
  pub clashing : clashes (z, mode) (z, lock.mode) ≡ true

not_same : (a t : ℕ) → not (a == t) ≡ true → a ≡ t → ⊥
not_same a t is same = false≢true (ap not (sym (eq-eqb a t same)) ∙ is)

way_of : (t z : ℕ) (mode : LockMode) (locks : List Lock) (lock : Lock) → Has locks lock → conflicts t z mode lock ≡ true → Way t z mode locks
way_of t z mode locks lock has is = search arith

refused_poll : (st : State) (t z : ℕ) (mode : LockMode) → says_busy (locking_reply (in_the_way t z mode st.locks) (copy_of st.store z)) ≡ true → Way t z mode st.locks
refused_poll st t z mode said = of (in_the_way t z mode st.locks) refl said
  where
    of : (found : Option Lock) → in_the_way t z mode st.locks ≡ found → says_busy (locking_reply found (copy_of st.store z)) ≡ true → Way t z mode st.locks
    of None is said = absurd (false≢true said)
    of (Some lock) is said = let some = find_some (conflicts t z mode) st.locks lock is in way_of t z mode st.locks lock some.0 some.1

refused_way : (t z : ℕ) (st : State) (asked : Request) → st.up ≡ true → for_lock t z asked ≡ true → says_busy (reply_of st asked) ≡ true → Way t z (mode_of asked) st.locks
refused_way t z st asked h4 h5 h6 = search (and_parts, eqb-true, refused_poll, says_busy, false≢true, arith)

-- ---- in a part of the run

module _ (given : Opening) (events later part : List Event) {still : ℕ → Type 0} (calm : Calm given events part still)
    (who : Begun given events later) (ours : IsOurs given events part still who.agent who.t who.caller who.ops) (after' : List Event) (parts : part ≡ who.before ++ Begin who.agent (Transaction who.caller who.site who.ops) ∷ after')
    (O : ℕ → ℕ → ℕ → LockMode → Type 0)
    (owned : (so_far back : List Event) → part ≡ so_far ++ back → (s : ℕ) (st : State) → server_at (run given (events ++ so_far)) s ≡ Some st → (lock : Lock) → Has st.locks lock → O s lock.t lock.suite lock.mode) where
  abbrev its : Begun given events part
  its = record { before = who.before; after = after'; agent = who.agent; t = who.t; caller = who.caller; site = who.site; ops = who.ops; parts = parts; begins = who.begins }

  pub record Barred (y : ℕ) (wanted : LockMode) (server : ℕ) : Type 0 where
    pub mode : LockMode
    pub strong : serves wanted mode ≡ true
    pub holder : ℕ
    pub way : LockMode
    pub not_own : holder ≡ who.t → ⊥
    pub clashing : clashes (y, mode) (y, way) ≡ true
    pub stands : O server holder y way
    pub reached : Reached (votes_now given events) (asks_for given events who.t who.caller who.ops) (held_in given events part who.agent who.t) (y, mode)

  module _ (y : ℕ) (wanted : LockMode) (server : ℕ) (is : some_step (refuses who.t y wanted server) who.agent (fixed_of given) (begun_world given (events ++ who.before) who.agent who.caller who.site who.ops) after' ≡ true) where
    f : Found (refuses who.t y wanted server) who.agent (fixed_of given) (begun_world given (events ++ who.before) who.agent who.caller who.site who.ops) after'
    f = found_in (refuses who.t y wanted server) who.agent (fixed_of given) (begun_world given (events ++ who.before) who.agent who.caller who.site who.ops) after' is

    abbrev so_far : List Event
    so_far = who.before ++ Begin who.agent (Transaction who.caller who.site who.ops) ∷ f.front

    abbrev w : World
    w = run given (events ++ so_far)

    split : part ≡ so_far ++ Step who.agent ∷ f.back
    split = search (its_event, append_assoc, arith)

    served' : (step (fixed_of given) (run given (events ++ so_far)) (Step who.agent)).done.served ≡ Some f.what
    served' =
        ap (λ w. (step (fixed_of given) w (Step who.agent)).done.served) (sym (run_is given events part calm its f.front)) ∙ f.served

    facts : ((f.what.server == server) ≡ true) × (for_lock who.t y f.what.request.value ≡ true) × (says_busy f.what.reply.value ≡ true) × (serves wanted (mode_of f.what.request.value) ≡ true)
    facts = four (f.what.server == server) (for_lock who.t y f.what.request.value) (says_busy f.what.reply.value) (serves wanted (mode_of f.what.request.value)) f.is

    asks : (here : Actor) × (actor_at (run given (events ++ so_far)) who.agent ≡ Some here) × (next_of (fixed_of given) here.agent ≡ Some (f.what.server, f.what.request.value))
    asks = step_asks (fixed_of given) w who.agent (actor_at w who.agent) f.what served'

    took : OwnTook (fixed_of given) (run given (events ++ so_far)) who.agent asks.0 asks.1 (step (fixed_of given) (run given (events ++ so_far)) (Step who.agent))
    took = own_took (fixed_of given) w who.agent asks.0 asks.1 (ap is_some served')

    abbrev stamped : Stamped Request
    stamped = record { stamp = asks.0.stamp; value = took.asked.1 }

    abbrev said : Served
    said = record { server = took.asked.0; request = stamped; reply = answer_of took.st stamped }

    same : said ≡ f.what
    same = same_Some said f.what (sym took.done ∙ served')

    asked_is : took.asked.1 ≡ f.what.request.value
    asked_is = ap (λ (what : Served). what.request.value) same

    there : server_at (run given (events ++ so_far)) server ≡ Some took.st
    there = ap (server_at w) (sym (ap (λ (what : Served). what.server) same ∙ eqb-true f.what.server server facts.0)) ∙ took.at

    way : Way who.t y (mode_of f.what.request.value) took.st.locks
    way =
        subst (λ asked. Way who.t y (mode_of asked) took.st.locks) asked_is
        (refused_way who.t y took.st took.asked.1 (up_at given events part calm.fair so_far (Step who.agent ∷ f.back) split took.asked.0 took.st took.at)
        (ap (for_lock who.t y) asked_is ∙ facts.1) (ap (λ (what : Served). says_busy what.reply.value) same ∙ facts.2))

    pub barred_by : Barred y wanted server
    barred_by = record {
      mode = mode_of f.what.request.value;
      strong = facts.3;
      holder = way.lock.t;
      way = way.lock.mode;
      not_own = way.not_own;
      clashing = way.clashing;
      stands = subst (λ y. O server way.lock.t y way.lock.mode) way.suite (owned so_far (Step who.agent ∷ f.back) split server took.st there way.lock way.has);
      reached = reached_then given events later part calm who ours so_far f.back who.agent split f.what served' who.t y facts.1 (record { mid = f.front; parts = refl; who_is = refl; number = refl });
    }
