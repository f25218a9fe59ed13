-- Transactions side by side: all along nobody meets any, and each lock at a server that is up is of one that runs and asks for it.
use Rattle.law_run_recovers.proofs.Vocabulary.{and_from, and_parts, length, list_all, ◌==◌, ◌≡◌, ℕ, Bool, true, false, List, [], ◌∷◌, ◌++◌, append-nil, append_assoc, Some, refl, sym, ap, subst, ◌∙◌, ◌%◌, ◌&&◌, ◌||◌, not, Contains, arith, same_Some}
use Rattle.law_run_recovers.proofs.Vocabulary.{Opening, IsAccepted, LockMode, Request, State, has_from, has_any, Transaction, Task, request_in, fixed_of, next_in, next_of, Event, Begin, Actor, actor_at, step, run, names, CanBe, clear_servers}
use Rattle.law_run_recovers.proofs.Vocabulary.{names_mine, can_front, run_more, clashes, clash, Begun, its_asks, GoSideBySide, GoSideBySideWhileDown, running_in, is_running, server_at, asks_for, Sweep, or_right}
use Rattle.rep_core.specs.declared.request.Request.TheVariants as request
use Rattle.law_run_recovers.proofs.AtWork.{mine_where}
use Rattle.law_run_recovers.proofs.Keeps.{OfAsks}
use Rattle.law_run_recovers.proofs.NearGround.{its}
use Rattle.law_run_recovers.proofs.Owned.{AllOwned, MayLock}
use Rattle.law_run_recovers.proofs.Sides.{its_agent, AllUp, up_next, up_same}
use Rattle.law_run_recovers.proofs.AmongAsks.{of_its_asks}
use Rattle.law_run_recovers.proofs.AmongCourse.{Course, runs_it}
use Rattle.law_run_recovers.proofs.BesideUnmet.{IsUnmet, world_then, then_is, steady_of, ran}
use Rattle.law_run_recovers.proofs.Busy.{Busy, busy_one as who_asks}
use Rattle.law_run_recovers.proofs.Picks.{along}

-- ---- tests

pub own_served : (a s n o : Bool) → a ≡ true → s ≡ true → ((a && not s) || (not a && n && o)) ≡ false
own_served a s n o is served = search arith

pub others_none : (a s n o : Bool) → a ≡ false → o ≡ false → ((a && not s) || (not a && n && o)) ≡ false
others_none a s n o h4 h5 = search arith

pub not_both : (a b : Bool) → (not a && not b) ≡ false → a ≡ false → b ≡ true
not_both a b h2 h3 = search arith

-- two of which one has a suite that the other has, and one of both exclusive, clash
pub clash_of : (asked others : List (ℕ × LockMode)) (one other : ℕ × LockMode) → Contains asked one → Contains others other → clashes one other ≡ true → clash asked others ≡ true
clash_of asked others one other has there is = search (has_any, has_from, arith)

-- ---- where all servers are up they stay up

run_after : (given : Opening) (events so_far : List Event) (event : Event) → run given (events ++ (so_far ++ event ∷ [])) ≡ (step (fixed_of given) (run given (events ++ so_far)) event).world
run_after given events so_far event = ap (run given) (sym (append_assoc events so_far (event ∷ []))) ∙ run_more given (events ++ so_far) event

pub free_where_up : (servers : List State) → list_all (λ (st : State). length st.locks == 0) servers ≡ true → list_all (λ (st : State). not st.up || (length st.locks == 0)) servers ≡ true
free_where_up [] all = refl
free_where_up (st ∷ servers) all = search (and_parts, and_from, or_right, free_where_up servers, arith)

module _ (given : Opening) (events later : List Event) (go : GoSideBySide given events later) where
  up_first : AllUp given go.can.accepted (run given (events ++ []))
  up_first = subst (λ all. AllUp given go.can.accepted (run given all)) (sym (append-nil events)) (λ s st at. (clear_servers 0 (run given events) go.up go.free s st at).0)

  up_on : (so_far rest : List Event) (event : Event) → later ≡ so_far ++ event ∷ rest → AllUp given go.can.accepted (run given (events ++ so_far)) → AllUp given go.can.accepted (run given (events ++ (so_far ++ event ∷ [])))
  up_on so_far rest event split up = subst (AllUp given go.can.accepted) (sym (run_after given events so_far event)) (up_next given go.can.accepted (events ++ so_far) event (go.unspoiled so_far rest event split) up)

  pub up_at : (so_far rest : List Event) → later ≡ so_far ++ rest → AllUp given go.can.accepted (run given (events ++ so_far))
  up_at = along later (λ so_far. AllUp given go.can.accepted (run given (events ++ so_far))) up_on up_first

  -- so they go side by side as where some are down
  pub as_down : GoSideBySideWhileDown given events later
  as_down = record {
    can = go.can;
    idle = go.idle;
    free = free_where_up (run given events).servers go.free;
    stays = λ before after split server.
        up_same given go.can.accepted (events ++ before) events (up_at before after split)
        (subst (λ all. AllUp given go.can.accepted (run given all)) (append-nil events) up_first) server;
    unspoiled = go.unspoiled;
    apart = go.apart;
  }

-- ---- all along

module _ (given : Opening) (events later : List Event) (go : GoSideBySideWhileDown given events later) where
  pub accepted : IsAccepted given
  accepted = go.can.accepted

  pub can_at : (so_far rest : List Event) → later ≡ so_far ++ rest → CanBe given (events ++ so_far)
  can_at so_far rest split = can_front given (events ++ so_far) rest (subst (CanBe given) (ap (λ later. events ++ later) split ∙ sym (append_assoc events so_far rest)) go.can)

  pub run_next : (so_far : List Event) (event : Event) → run given (events ++ (so_far ++ event ∷ [])) ≡ (step (fixed_of given) (run given (events ++ so_far)) event).world
  run_next so_far event = run_after given events so_far event

  -- ---- transactions of a part

  -- it is run, and asks for such a lock
  pub record Owned (so_far : List Event) (t z : ℕ) (mode : LockMode) : Type 0 where
    pub one : Begun given events so_far
    pub number : one.t ≡ t
    pub running : is_running (run given (events ++ so_far)) one.agent one.t ≡ true
    pub asks : Contains (its_asks given events so_far one) (z, mode)

  pub record Sides (so_far : List Event) : Type 0 where
    pub unmet : (one : Begun given events so_far) → IsUnmet given events one.before one.agent one.t one.caller one.site one.ops one.after
    pub locks : (server : ℕ) (st : State) → server_at (run given (events ++ so_far)) server ≡ Some st → st.up ≡ true → AllOwned (Owned so_far) st.locks

  -- its world after all of these events is theirs
  pub last_is : (so_far : List Event) (one : Begun given events so_far) → world_then given events one.before one.agent one.t one.caller one.site one.ops one.after ≡ run given (events ++ so_far)
  last_is so_far one = then_is given events one.before one.agent one.t one.caller one.site one.ops one.after ∙ ap (λ all. run given (events ++ all)) (sym one.parts)

  pub can_of : (so_far rest : List Event) → later ≡ so_far ++ rest → (one : Begun given events so_far) → CanBe given (events ++ (one.before ++ Begin one.agent (Transaction one.caller one.site one.ops) ∷ one.after))
  can_of so_far rest split one = subst (λ all. CanBe given (events ++ all)) one.parts (can_at so_far rest split)

  -- one number is one agent's
  pub same_agent : (so_far : List Event) (one other : Begun given events so_far) → one.t ≡ other.t → one.agent ≡ other.agent
  same_agent so_far one other same =
      sym (its_agent given accepted (events ++ one.before) one.agent one.t (Transaction one.caller one.site one.ops) one.begins) ∙ ap (λ t. t % 64) same
      ∙ its_agent given accepted (events ++ other.before) other.agent other.t (Transaction other.caller other.site other.ops) other.begins

  -- ---- at a moment

  module _ (so_far rest : List Event) (split : later ≡ so_far ++ rest) (sides : Sides so_far) where
    -- one that runs stands well
    module _ (one : Begun given events so_far) (running : is_running (run given (events ++ so_far)) one.agent one.t ≡ true) where
      abbrev its_unmet : IsUnmet given events one.before one.agent one.t one.caller one.site one.ops one.after
      its_unmet = sides.unmet one

      pub course_of : Course given (events ++ one.before) one.after one.agent one.t one.caller one.site one.ops its_unmet.actor
          (steady_of given events one.before one.agent one.t one.caller one.site one.ops one.after its_unmet (can_of so_far rest split one)) one.after
      course_of =
          ran given events one.before one.agent one.t one.caller one.site one.ops one.after its_unmet (can_of so_far rest split one) one.after [] (sym (append-nil one.after)) []
          (ap (λ all. is_running (run given all) one.agent one.t) (append-nil (events ++ (one.before ++ Begin one.agent (Transaction one.caller one.site one.ops) ∷ one.after)) ∙ ap (λ all. events ++ all) (sym one.parts)) ∙ running)

      -- what it asks for next it asks for in its name, as on the table of its begin
      pub asks_so : (here : Actor) → actor_at (run given (events ++ so_far)) one.agent ≡ Some here → (asked : ℕ × Request) → next_of (fixed_of given) here.agent ≡ Some asked
          → OfAsks one.t (asks_for given (events ++ one.before) one.t one.caller one.ops) asked.1
      asks_so here there asked next =
          let goes = steady_of given events one.before one.agent one.t one.caller one.site one.ops one.after its_unmet (can_of so_far rest split one) in
          let c = course_of in
          let r = runs_it given (events ++ one.before) one.after one.agent one.t one.caller one.site one.ops its_unmet.actor goes one.after c in
          let same : c.here ≡ here = same_Some c.here here (sym c.there ∙ ap (λ w. actor_at w one.agent) (last_is so_far one) ∙ there) in
          let task : Task = its given (events ++ one.before) one.after one.agent one.t one.caller one.site one.ops its_unmet.actor goes in
          of_its_asks given (events ++ one.before) one.after one.agent one.t one.caller one.site one.ops its_unmet.actor goes asked.0 asked.1 c.here.agent.cache r.txn_run.suites r.txn_run.phase r.at.1
          (subst (λ task. request_in (fixed_of given) task r.txn_run.suites r.txn_run.phase ≡ Some (asked.0, asked.1)) r.at.0
          (sym (ap (next_in (fixed_of given)) r.running) ∙ ap (λ (a : Actor). next_of (fixed_of given) a.agent) same ∙ next))

    -- ---- who asks

    module _ (i : ℕ) (here : Actor) (there : actor_at (run given (events ++ so_far)) i ≡ Some here) (asked : ℕ × Request) (next : next_of (fixed_of given) here.agent ≡ Some asked) where
      pub busy_one : Busy given events so_far i here.agent.doing
      busy_one = who_asks given events later go.can (λ so_far rest k server split. go.unspoiled so_far rest (Begin k (Sweep server)) split) go.idle so_far rest split i here there asked next

      pub one_runs : is_running (run given (events ++ so_far)) busy_one.one.agent busy_one.one.t ≡ true
      one_runs = ap (running_in busy_one.one.t) (ap (actor_at (run given (events ++ so_far))) busy_one.who ∙ there) ∙ busy_one.runs_it

      pub one_named : names busy_one.one.t asked.1 ≡ true
      one_named = names_mine (fixed_of given) busy_one.one.t here.agent.doing asked (mine_where busy_one.one.t here.agent.doing busy_one.runs_it) next

      -- a lock that it asks for is of its transaction
      pub may_lock : MayLock (Owned so_far) asked.1
      may_lock = of asked.1 (asks_so busy_one.one one_runs here (ap (actor_at (run given (events ++ so_far))) busy_one.who ∙ there) asked next)
        where
          of : (question : Request) → OfAsks busy_one.one.t (asks_for given (events ++ busy_one.one.before) busy_one.one.t busy_one.one.caller busy_one.one.ops) question
              → MayLock (Owned so_far) question
          of (request.Poll named suite mode) is = record { one = busy_one.one; number = sym is.0; running = one_runs; asks = is.1 }
          of (request.Upgrade named suite) is = record { one = busy_one.one; number = sym is.0; running = one_runs; asks = is.1 }
          of other is = tt
