-- What the course of a transaction stands on, be it among locks that stay, or told what it would have been told as it began.
use Rattle.law_run_recovers.proofs.Vocabulary.{◌≡◌, ℕ, Bool, true, false, List, [], ◌∷◌, ◌++◌, append_assoc, Option, Some, None, refl, sym, ap, subst, ◌∙◌, arith, ◌==◌, ◌&&◌, ◌||◌, not, slice_get, false≢true, and_parts, eqb-true, nat_tests}
use Rattle.law_run_recovers.proofs.Vocabulary.{none-some, same_Some, Identity, Opening, Op, Lock, Request, Stamped, State, served, Has, any_has, Transaction, Fixed, fixed_of, next_of, Served, Event, Begin, Step, Crash, Actor, World, server_at}
use Rattle.law_run_recovers.proofs.Vocabulary.{actor_at, step, run, CanBe, begins_job, puts_in, is_up, locks_in, locks_at, AreNear, asks_for, running_in, is_running, begun_world, world_after, up_and, of_up, robs, hinders_itself, GoesAmongLocks}
use Rattle.law_run_recovers.proofs.Vocabulary.{AsAtItsBegin, ToldAsAtItsBegin, bereaves, drops, everywhere, and_right}
use Rattle.rep_core.specs.declared.request.Request.TheVariants as request
use Rattle.law_run_recovers.proofs.Keeps.{IsAtWork, OfAsks, after_append, as_at_its_begin, operates_it}
use Rattle.law_run_recovers.proofs.Serves.{On}

-- ---- a crash

module _ (fixed : Fixed) (w : World) (server : ℕ) where
  abbrev asked : Stamped Request
  asked = record { stamp = 0; value = request.Crash }

  -- a server that crashed is down
  crash_downs : (what : Served) → (step fixed w (Crash server)).done.served ≡ Some what → (what.server ≡ server) × (is_up (step fixed w (Crash server)).world server ≡ false)
  crash_downs what = search (none-some, same_Some, puts_in, arith)

  -- agents are as they were
  crash_agents : (step fixed w (Crash server)).world.agents ≡ w.agents
  crash_agents = search arith

-- ---- either premise

-- What is in its way at near servers, and what they show, is as at its begin where it asks them before its end is fixed; its steps are served until then,
-- nobody takes a lock of it or has it recorded, and no crash takes a lock that a near server gave it.
pub record GoesSteadily (given : Opening) (events later : List Event) (agent t : ℕ) (caller : Identity) (site : ℕ) (ops : List Op) (actor : Actor) : Type 0 where
  pub can : CanBe given (events ++ Begin agent (Transaction caller site ops) ∷ later)
  pub there : actor_at (run given events) agent ≡ Some actor
  pub begins : begins_job given (run given events) (Begin agent (Transaction caller site ops)) ≡ Some (t, Transaction caller site ops)
  pub near : ℕ → Bool
  pub are_near : AreNear given events t caller site ops actor.agent.cache near
  pub same : (so_far rest : List Event) (here : Actor) (asked : ℕ × Request) → later ≡ so_far ++ Step agent ∷ rest → IsAtWork (world_after given events agent caller site ops so_far) agent t
      → actor_at (world_after given events agent caller site ops so_far) agent ≡ Some here → next_of (fixed_of given) here.agent ≡ Some asked
      → near asked.0 ≡ true → OfAsks t (asks_for given events t caller ops) asked.1 → AsAtItsBegin (run given events) (world_after given events agent caller site ops so_far) asked.0 asked.1
  pub free_hand : (so_far rest : List Event) (event : Event) → later ≡ so_far ++ event ∷ rest → IsAtWork (world_after given events agent caller site ops so_far) agent t
      → (hinders_itself given agent (world_after given events agent caller site ops so_far) event || robs given agent t (world_after given events agent caller site ops so_far) event) ≡ false
  pub kept : (so_far rest : List Event) (event : Event) → later ≡ so_far ++ event ∷ rest → IsAtWork (world_after given events agent caller site ops so_far) agent t
      → ((server z : ℕ) → On (locks_at (world_after given events agent caller site ops so_far) server) t z → (near server && is_up (run given events) server) ≡ true)
      → bereaves given agent t (world_after given events agent caller site ops so_far) event ≡ false

module _ (given : Opening) (events later : List Event) (agent t : ℕ) (caller : Identity) (site : ℕ) (ops : List Op) (actor : Actor) where
  abbrev then : List Event → World
  then so_far = world_after given events agent caller site ops so_far

  -- ---- among locks that stay

  module _ (goes : GoesAmongLocks given events later agent t caller site ops actor) where
    abbrev Answered : List Event → Type 0
    Answered so_far = (server z : ℕ) → On (locks_at (world_after given events agent caller site ops so_far) server) t z → (goes.near server && is_up (run given events) server) ≡ true

    module _ (so_far rest : List Event) (server : ℕ) (split : later ≡ so_far ++ Crash server ∷ rest) (work : IsAtWork (world_after given events agent caller site ops so_far) agent t) (answered : Answered so_far) where
      next_is : world_after given events agent caller site ops (so_far ++ Crash server ∷ []) ≡ (step (fixed_of given) (world_after given events agent caller site ops so_far) (Crash server)).world
      next_is = after_append (fixed_of given) so_far (Crash server ∷ []) (begun_world given events agent caller site ops)

      runs_on : is_running (world_after given events agent caller site ops (so_far ++ Crash server ∷ [])) agent t ≡ true
      runs_on = ap (λ w. is_running w agent t) next_is ∙ ap (λ agents. running_in t (slice_get agents agent)) (crash_agents (fixed_of given) (then so_far) server) ∙ work.running

      none_crashes : (what : Served) → (step (fixed_of given) (world_after given events agent caller site ops so_far) (Crash server)).done.served ≡ Some what
          → (goes.near what.server && is_up (run given events) what.server) ≡ true → ⊥
      none_crashes what done answered =
          let crashed = crash_downs (fixed_of given) (then so_far) server what done in
          let parts = and_parts (goes.near what.server) (is_up (run given events) what.server) answered in
          let up = (goes.stays (so_far ++ Crash server ∷ []) rest (split ∙ sym (append_assoc so_far (Crash server ∷ []) rest)) runs_on).up what.server parts.0 ∙ parts.1 in
          let now : is_up (world_after given events agent caller site ops (so_far ++ Crash server ∷ [])) what.server ≡ false =
          ap (λ w. is_up w what.server) next_is ∙ ap (is_up (step (fixed_of given) (then so_far) (Crash server)).world) crashed.0 ∙ crashed.1 in
          false≢true (sym now ∙ up)

      at_server : (what : Served) → (step (fixed_of given) (world_after given events agent caller site ops so_far) (Crash server)).done.served ≡ Some what → (found : Option State)
          → server_at (world_after given events agent caller site ops so_far) what.server ≡ found → up_and (drops t) what.request.value found ≡ true → ⊥
      at_server what done None at some = false≢true some
      at_server what done (Some st) at some =
          let parts = and_parts st.up (drops t st what.request.value) some in
          let asked = operates_it (then so_far) server request.Crash (server_at (then so_far) server) what done in
          let lock = any_has (λ (lock : Lock). (lock.t == t) && not lock.prepared) st.locks (ap (drops t st) (sym asked) ∙ parts.1) in
          let own = and_parts (lock.0.t == t) (not lock.0.prepared) lock.2 in
          none_crashes what done (answered what.server lock.0.suite (record { lock = lock.0; has = has_so st at lock.0 lock.1; of_it = eqb-true lock.0.t t own.0; on_it = refl }))
        where
          has_so : (st : State) → server_at (world_after given events agent caller site ops so_far) what.server ≡ Some st → (lock : Lock) → Has st.locks lock
              → Has (locks_at (world_after given events agent caller site ops so_far) what.server) lock
          has_so st at lock has = subst (λ locks. Has locks lock) (sym (ap locks_in at)) has

      served_so : (found : Option Served) → (step (fixed_of given) (world_after given events agent caller site ops so_far) (Crash server)).done.served ≡ found
          → of_up (drops t) (world_after given events agent caller site ops so_far) found ≡ true → ⊥
      served_so found h1 h2 = search (false≢true, at_server, arith)

      kept_so : bereaves given agent t (world_after given events agent caller site ops so_far) (Crash server) ≡ false
      kept_so = search (served_so, and_right, arith)

    pub among_kept : (so_far rest : List Event) (event : Event) → later ≡ so_far ++ event ∷ rest → IsAtWork (world_after given events agent caller site ops so_far) agent t → Answered so_far
        → bereaves given agent t (world_after given events agent caller site ops so_far) event ≡ false
    among_kept so_far rest event h3 h4 h5 = search (kept_so, arith)

    abbrev pub steady : GoesSteadily given events later agent t caller site ops actor
    steady = record {
      can = goes.can;
      there = goes.there;
      begins = goes.begins;
      near = goes.near;
      are_near = goes.are_near;
      same = λ so_far rest here asked split work there next near of_it. as_at_its_begin given events later agent t caller site ops actor goes so_far (Step agent ∷ rest) split work asked.0 asked.1 near of_it;
      free_hand = λ so_far rest event split work. goes.free_hand so_far rest event split work.running;
      kept = among_kept;
    }

    -- its steps are served to its end
    pub never_hindered : (so_far rest : List Event) (event : Event) → later ≡ so_far ++ event ∷ rest → is_running (world_after given events agent caller site ops so_far) agent t ≡ true
        → hinders_itself given agent (world_after given events agent caller site ops so_far) event ≡ false
    never_hindered so_far rest event split running = search arith

  -- ---- told as at its begin

  module _ (goes : ToldAsAtItsBegin given events later agent t caller site ops actor) where
    pub first_two : (a b c : Bool) → (a || (b || c)) ≡ false → (a || b) ≡ false
    first_two a b c is = grind (arith, nat_tests)

    pub third : (a b c : Bool) → (a || (b || c)) ≡ false → c ≡ false
    third a b c is = grind (arith, nat_tests)

    abbrev pub told_steady : GoesSteadily given events later agent t caller site ops actor
    told_steady = record {
      can = goes.can;
      there = goes.there;
      begins = goes.begins;
      near = everywhere;
      are_near = record { home = refl; first = λ server vote. refl; hints = λ one prefix server has is vote. refl; shown = λ one by server has near up vote. refl; set = λ one server has vote. refl };
      same = λ so_far rest here asked split work there next near of_it. goes.same so_far rest here asked split work.running work.untold there next;
      free_hand = λ so_far rest event split work.
          first_two (hinders_itself given agent (then so_far) event) (robs given agent t (then so_far) event) (bereaves given agent t (then so_far) event) (goes.free_hand so_far rest event split work.running work.untold);
      kept = λ so_far rest event split work answered.
          third (hinders_itself given agent (then so_far) event) (robs given agent t (then so_far) event) (bereaves given agent t (then so_far) event) (goes.free_hand so_far rest event split work.running work.untold);
    }
