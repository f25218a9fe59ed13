-- Who goes alone is left alone where it asks; and who meets no lock is among locks that stay.
use Rattle.law_run_recovers.proofs.Vocabulary.{◌≡◌, ⊎_elim, ℕ, ◌+◌, Bool, true, false, cond, List, [], ◌∷◌, ◌++◌, Option, Some, None, is_some, refl, sym, ap, subst, ◌∙◌, arith, ◌*◌, ◌==◌, ◌&&◌, ◌||◌, not, length, slice_get, slice_set, Contains}
use Rattle.law_run_recovers.proofs.Vocabulary.{false≢true, and_parts, eqb-true, eq-eqb, nat_tests, none-some, Identity, Opening, LockMode, Op, Verdict, State, served, all_at, Job, Transaction, Fixed, Task, Running, TransactionRun, After, execute}
use Rattle.law_run_recovers.proofs.Vocabulary.{fixed_of, is_idle, begins, begin, started, left, Event, Begin, Actor, World, server_at, actor_at, has_no_job, becomes, step, after, run, begins_now, same_or, holds_of, Leaves, leaves_begin, agent_of}
use Rattle.law_run_recovers.proofs.Vocabulary.{puts_in, CanBe, begins_job, IsOwnAt, nothing_in_the_way, with_job, at_has, none_own, no_lock, IsCalm, busy, can_front, cache_valid, up_in, is_up, hinders, unhindered_from, GoesAlone, asks_for, way_in}
use Rattle.law_run_recovers.proofs.Vocabulary.{is_way_met, in_its_way, runs, running_in, is_running, begun_world, world_after, robs, hinders_itself, StandsOpen, GoesUnmet, StandsStill, GoesAmongLocks, not-true, up_as}
use Rattle.law_run_alone.proofs.Starts.{starts}
use Rattle.rep_core.specs.declared.reply.Verdict.TheVariants as verdict
use Rattle.law_run_alone.proofs.Goes as alone
use Rattle.law_run_recovers.proofs.Serves.{Serves, event_serves}

-- ---- what does not hinder is calm

not_some : {X : Type 0} (b : Bool) (found : Option X) → (b && is_some found) ≡ false → b ≡ true → found ≡ None
not_some b found h2 h3 = search arith

its_turn : (idle b served : Bool) → idle ≡ false → (not idle && not (b && served)) ≡ false → b ≡ true
its_turn idle b served h3 h4 = search arith

pub is_calm : (given : Opening) (up : ℕ → Bool) (agent : ℕ) (w : World) (event : Event) → hinders given agent w event ≡ false → IsCalm given up agent w event
is_calm given up agent w event h5 = search (not_some, eq-eqb, eqb-true, its_turn, busy, false≢true, arith)

-- ---- a server

-- where it has all locks, or the server is down, nothing is in its way
own_way : (b : Bool) (t suite : ℕ) (mode : LockMode) (st : State) → IsOwnAt b t st → is_way_met (way_in t suite mode (Some st)) ≡ false
own_way b t suite mode st h5 = search (nothing_in_the_way, arith)

none_where : (b : Bool) (n : ℕ) → (not b || (n == 0)) ≡ true → b ≡ true → (n == 0) ≡ true
none_where b n h2 h3 = search arith

-- where nothing is in the way, that it is up says all
pub plain_way : (t suite : ℕ) (mode : LockMode) (found : Option State) → is_way_met (way_in t suite mode found) ≡ false → way_in t suite mode found ≡ cond (up_in found) (Some None) None
plain_way t suite mode found h4 = search arith

-- ---- an agent

pub busy_of : (t : ℕ) (found : Option Actor) → running_in t found ≡ true → has_no_job found ≡ false
busy_of t found h2 = search arith

-- ---- an event that does not hinder does not rob

own_served : (a s c d : Bool) → (a && s) ≡ true → ((a && not s) || (not a && c && d)) ≡ false
own_served a s c d is = grind (arith, nat_tests)

it_is : (i a s : Bool) → (not i && not (a && s)) ≡ false → i ≡ false → (a && s) ≡ true
it_is i a s calm busy = grind (arith, nat_tests)

free_hand : (given : Opening) (agent t : ℕ) (w : World) (event : Event) → hinders given agent w event ≡ false → is_running w agent t ≡ true → (hinders_itself given agent w event || robs given agent t w event) ≡ false
free_hand given agent t w event h5 h6 = search arith

-- ---- no server comes

none_comes : (fixed : Fixed) (w : World) (event : Event) (i : ℕ) → server_at (step fixed w event).world i ≡ None → server_at w i ≡ None
none_comes fixed w event i none = ⊎_elim (λ same. ap (λ servers. slice_get servers i) (sym same) ∙ none) of (event_serves fixed w event)
  where
    of : Serves w (step fixed w event) → server_at w i ≡ None
    of serves =
        let puts = puts_in w.servers serves.target serves.st (served serves.st serves.asked) serves.at in
        let now : slice_get (slice_set w.servers serves.target (served serves.st serves.asked)) i ≡ None = ap (λ servers. slice_get servers i) (sym serves.servers) ∙ none in
        ⊎_elim
        (λ (here : i ≡ serves.target). absurd (none-some (served serves.st serves.asked) (sym now ∙ ap (slice_get (slice_set w.servers serves.target (served serves.st serves.asked))) here ∙ puts.here)))
        (λ apart. sym (puts.apart i apart) ∙ now)
        (same_or i serves.target)

-- ---- GoesAlone gives GoesUnmet

module _ (given : Opening) (events later : List Event) (agent t : ℕ) (caller : Identity) (site : ℕ) (ops : List Op) (actor : Actor) (goes : GoesAlone given events later agent t caller site ops actor) where
  abbrev fixed : Fixed
  fixed = fixed_of given

  abbrev first : World
  first = run given events

  free_at : (i : ℕ) (st : State) → server_at first i ≡ Some st → IsOwnAt (is_up first i) t st
  free_at i st at = subst (λ b. IsOwnAt b t st) (sym (ap up_in at)) (of (st.up) refl)
    where
      of : (b : Bool) → st.up ≡ b → IsOwnAt b t st
      of true is = (is, none_own t st.locks (none_where st.up (length st.locks) (all_at (λ (st : State). not st.up || (length st.locks == 0)) first.servers st goes.free (at_has first.servers i st at)) is))
      of false is = (is, λ lock has. no_lock given goes.can.accepted events agent t (Transaction caller site ops) goes.begins i st at lock has)

  -- nothing is in its way as it begins
  pub clear_first : (z : ℕ) (mode : LockMode) (server : ℕ) → in_its_way (run given events) t z mode server ≡ false
  clear_first z mode server = of (server_at first server) refl
    where
      of : (found : Option State) → server_at (run given events) server ≡ found → in_its_way (run given events) t z mode server ≡ false
      of None at = ap (λ found. is_way_met (way_in t z mode found)) at
      of (Some st) at = ap (λ found. is_way_met (way_in t z mode found)) at ∙ own_way (is_up first server) t z mode st (free_at server st at)

  -- as it stands in the books, where these events are to come
  pub record Here (w : World) (rest : List Event) : Type 0 where
    pub g : alone.Goes given (is_up first) t agent w rest
    pub missing : (i : ℕ) → server_at w i ≡ None → server_at first i ≡ None
    pub calm : unhindered_from given agent w rest ≡ true

  here_first : Here (begun_world given events agent caller site ops) later
  here_first = search (alone.goes_first, free_at, none_comes, arith)

  walk : (so_far rest : List Event) (w : World) → Here w (so_far ++ rest) → Here (after fixed w so_far) rest
  walk [] rest w here = here
  walk (event ∷ so_far) rest w here =
      let parts = and_parts (not (hinders given agent w event)) (unhindered_from given agent (step fixed w event).world (so_far ++ rest)) here.calm in
      walk so_far rest (step fixed w event).world (record {
        g = alone.goes_next given (is_up first) t agent w event (so_far ++ rest) here.g (is_calm given (is_up first) agent w event (not-true (hinders given agent w event) parts.0));
        missing = λ i none. here.missing i (none_comes fixed w event i none);
        calm = parts.1;
      })

  pub here_at : (so_far rest : List Event) → later ≡ so_far ++ rest → Here (world_after given events agent caller site ops so_far) rest
  here_at so_far rest is = walk so_far rest (begun_world given events agent caller site ops) (subst (Here (begun_world given events agent caller site ops)) is here_first)

  pub stands_open : (w : World) (rest : List Event) (asked : List (ℕ × LockMode)) (near : ℕ → Bool) → Here w rest → StandsOpen first w t asked near
  stands_open w rest asked near here = record { up = λ server is. same_up server (server_at w server) refl; way = λ server one is has. no_way server one (server_at w server) refl }
    where
      same_up : (server : ℕ) (found : Option State) → server_at w server ≡ found → is_up w server ≡ is_up first server
      same_up server None at = ap up_in at ∙ sym (ap up_in (here.missing server at))
      same_up server (Some st) at = ap up_in at ∙ up_as (is_up first server) t st (here.g.owns.servers server st at)

      no_way : (server : ℕ) (one : ℕ × LockMode) (found : Option State) → server_at w server ≡ found → in_its_way w t one.0 one.1 server ≡ false
      no_way server one None at = ap (λ found. is_way_met (way_in t one.0 one.1 found)) at
      no_way server one (Some st) at = ap (λ found. is_way_met (way_in t one.0 one.1 found)) at ∙ own_way (is_up first server) t one.0 one.1 st (here.g.owns.servers server st at)

  pub alone_is_unmet : GoesUnmet given events later agent t caller site ops actor
  alone_is_unmet = record {
    can = goes.can;
    there = goes.there;
    begins = goes.begins;
    near = λ server. true;
    are_near = record { home = refl; first = λ server is. refl; hints = λ one prefix server has is vote. refl; shown = λ one by server has is up vote. refl; set = λ one server has vote. refl };
    unmet = λ so_far rest is running. stands_open (world_after given events agent caller site ops so_far) rest (asks_for given events t caller ops) (λ server. true) (here_at so_far rest is);
    free_hand = λ so_far rest event is running.
        let here = here_at so_far (event ∷ rest) is in
        let w = world_after given events agent caller site ops so_far in
        let parts = and_parts (not (hinders given agent w event)) (unhindered_from given agent (step fixed w event).world rest) here.calm in
        free_hand given agent t w event (not-true (hinders given agent w event) parts.0) running;
  }

  pub near_alone : (server : ℕ) → alone_is_unmet.near server ≡ true
  unfolding alone_is_unmet
  near_alone server = refl

-- ---- at its begin it runs

begun_so : (given : Opening) (actor : Actor) (agent t : ℕ) (job : Job) → with_job job (begins_now (fixed_of given) agent job (Some actor)) ≡ Some (t, job)
    → (64 * actor.agent.count + agent ≡ t) × (begins (fixed_of given) actor.agent job ≡ true)
begun_so given actor agent t job = search arith

runs_left : (t : ℕ) (task : Task) (v : Verdict) (after : After TransactionRun) → Leaves task v after → task.t ≡ t → is_idle (left Running after) ≡ false → runs t (left Running after) ≡ true
runs_left t task v after h4 h5 h6 = search arith

module _ (given : Opening) (events later : List Event) (agent t : ℕ) (caller : Identity) (site : ℕ) (ops : List Op) (actor : Actor)
    (can : CanBe given (events ++ Begin agent (Transaction caller site ops) ∷ later)) (there : actor_at (run given events) agent ≡ Some actor)
    (begins_so : begins_job given (run given events) (Begin agent (Transaction caller site ops)) ≡ Some (t, Transaction caller site ops)) where
  abbrev pub its_job : Job
  its_job = Transaction caller site ops

  abbrev pub its_task : Task
  its_task = record { t = 64 * actor.agent.count + actor.agent.index; caller = caller; site = site; ops = ops }

  abbrev pub begun_actor : Actor
  begun_actor = record actor { agent = begin (fixed_of given) actor.agent (Transaction caller site ops) }

  pub its_begin : (64 * actor.agent.count + agent ≡ t) × (begins (fixed_of given) actor.agent its_job ≡ true)
  its_begin = begun_so given actor agent t its_job (ap (λ found. with_job its_job (begins_now (fixed_of given) agent its_job found)) (sym there) ∙ begins_so)

  pub number_is : its_task.t ≡ t
  number_is = ap (λ n. 64 * actor.agent.count + n) ((holds_of given can.accepted events).agents.index agent actor.agent (ap agent_of there)) ∙ its_begin.0

  pub begun_there : actor_at (begun_world given events agent caller site ops) agent ≡ Some begun_actor
  begun_there = search (puts_in, arith)

  pub begun_servers : (i : ℕ) → server_at (begun_world given events agent caller site ops) i ≡ server_at (run given events) i
  begun_servers i = ap (λ found. server_at (becomes (run given events) agent (λ a. begin (fixed_of given) a (Transaction caller site ops)) found).world i) there

  pub begun_runs : is_running (begun_world given events agent caller site ops) agent t ≡ true
  begun_runs =
      ap (running_in t) begun_there
      ∙ ap (λ b. runs t (cond b (record (started (fixed_of given) actor.agent its_job) { count = actor.agent.count + 1 }) actor.agent).doing) its_begin.1
      ∙ runs_left t its_task verdict.Aborted (execute (fixed_of given) its_task (record { suites = []; cache = actor.agent.cache })).after (leaves_begin (fixed_of given) its_task actor.agent.cache) number_is
      (starts (fixed_of given) its_task actor.agent.cache can.c0 (cache_valid given events (can_front given events (Begin agent its_job ∷ later) can) agent actor there))

-- ---- GoesUnmet gives GoesAmongLocks

module _ (given : Opening) (events later : List Event) (agent t : ℕ) (caller : Identity) (site : ℕ) (ops : List Op) (actor : Actor) (goes : GoesUnmet given events later agent t caller site ops actor) where
  abbrev first_of : World
  first_of = run given events

  pub open_first : (server : ℕ) (one : ℕ × LockMode) → goes.near server ≡ true → Contains (asks_for given events t caller ops) one → in_its_way (run given events) t one.0 one.1 server ≡ false
  open_first server one near has =
      ap (λ found. is_way_met (way_in t one.0 one.1 found)) (sym (begun_servers given events later agent t caller site ops actor goes.can goes.there goes.begins server))
      ∙ (goes.unmet [] later refl (begun_runs given events later agent t caller site ops actor goes.can goes.there goes.begins)).way server one near has

  still : (w : World) → StandsOpen first_of w t (asks_for given events t caller ops) goes.near → StandsStill first_of w t (asks_for given events t caller ops) goes.near
  still w open' = search (plain_way, open_first, arith)

  pub unmet_is_among_locks : GoesAmongLocks given events later agent t caller site ops actor
  unmet_is_among_locks = search (still, free_hand, arith)

  pub near_among : (server : ℕ) → goes.near server ≡ true → unmet_is_among_locks.near server ≡ true
  unfolding unmet_is_among_locks
  near_among server near = near

  pub near_back : (server : ℕ) → unmet_is_among_locks.near server ≡ true → goes.near server ≡ true
  unfolding unmet_is_among_locks
  near_back server near = near
