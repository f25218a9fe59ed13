-- Transactions side by side: one event more.
use Rattle.law_run_recovers.proofs.Vocabulary.{◌≡◌, ◌≢◌, ⊎_elim, ℕ, Bool, true, false, cond, List, [], ◌∷◌, ◌++◌, append-nil, append_assoc, Option, Some, None, refl, sym, ap, subst, ◌∙◌, ◌==◌, ◌&&◌, ◌||◌, option_map, Contains, arith, false≢true}
use Rattle.law_run_recovers.proofs.Vocabulary.{and_from, eqb-true, eq-eqb, Opening, LockMode, is_exclusive, Lock, in_the_way, conflicts, State, Has, find_some, Transaction, fixed_of, Served, Event, Begin, Step, World, server_at, actor_at, has_no_job}
use Rattle.law_run_recovers.proofs.Vocabulary.{step, run, names, MayAsk, asks_servers, clashes, clash, Begun, its_asks, spoils, GoSideBySideWhileDown, up_in, is_up, asks_for, is_way_met, way_in, in_its_way, GoesAmongLocks, locks_in, locks_at}
use Rattle.law_run_recovers.proofs.Vocabulary.{is_running, takes, up_and, of_up, robs, hinders_itself, StandsOpen, everywhere}
use Rattle.law_run_recovers.proofs.Keeps.{step_asks}
use Rattle.law_run_recovers.proofs.Owned.{AllOwned, MayLock, owned_stays}
use Rattle.law_run_recovers.proofs.Sides.{compared, names_one, takes_named}
use Rattle.law_run_recovers.proofs.AmongCourse.{parted, course_runs}
use Rattle.law_run_recovers.proofs.Steady.{steady}
use Rattle.law_run_recovers.proofs.AmongLeft.{left_at}
use Rattle.law_run_recovers.proofs.BesideUnmet.{IsUnmet, world_then, unmet_more, among_of, ran_then, onward}
use Rattle.law_run_recovers.proofs.BesideAll.{own_served, others_none, not_both, clash_of, run_next, Owned, Sides, last_is, can_of, same_agent, busy_one, one_named, may_lock}
use Rattle.law_run_recovers.proofs.Open.{busy_of}

-- where a lock conflicts two clash
conflict_parts : (t z : ℕ) (mode : LockMode) (lock : Lock) → conflicts t z mode lock ≡ true → (lock.suite ≡ z) × ((lock.t == t) ≡ false) × ((is_exclusive mode || is_exclusive lock.mode) ≡ true)
conflict_parts t z mode lock is = search arith

or_same : (a b : Bool) → (a || b) ≡ true → (b || a) ≡ true
or_same a b h2 = search arith

pub clash_back : (a b : ℕ × LockMode) → clashes a b ≡ true → clashes b a ≡ true
clash_back a b is = search arith

module _ (given : Opening) (events later : List Event) (go : GoSideBySideWhileDown given events later) (so_far rest : List Event) (event : Event) (split : later ≡ so_far ++ event ∷ rest) (sides : Sides given events later go so_far) where
  abbrev w : World
  w = run given (events ++ so_far)

  abbrev BegunNow : Type 0
  BegunNow = Begun given events (so_far ++ event ∷ [])

  calm : spoils given (run given (events ++ so_far)) event ≡ false
  calm = go.unspoiled so_far rest event split

  split_on : later ≡ (so_far ++ event ∷ []) ++ rest
  split_on = split ∙ sym (append_assoc so_far (event ∷ []) rest)

  -- ---- nobody hinders or robs one that runs

  module _ (one : Begun given events so_far) (running : is_running (run given (events ++ so_far)) one.agent one.t ≡ true) where
    has_job : has_no_job (actor_at (run given (events ++ so_far)) one.agent) ≡ false
    has_job = busy_of one.t (actor_at w one.agent) running

    not_robbed : (i : ℕ) → (i == one.agent) ≡ false → of_up (takes one.t) (run given (events ++ so_far)) (step (fixed_of given) (run given (events ++ so_far)) (Step i)).done.served ≡ false
    not_robbed i apart = of (step (fixed_of given) w (Step i)).done.served refl
      where
        named_not : (what : Served) → (step (fixed_of given) (run given (events ++ so_far)) (Step i)).done.served ≡ Some what → names one.t what.request.value ≡ true → ⊥
        named_not what served named =
            let asks = step_asks (fixed_of given) w i (actor_at w i) what served in
            let busy = busy_one given events later go so_far (event ∷ rest) split sides i asks.0 asks.1 (what.server, what.request.value) asks.2 in
            let same = names_one one.t busy.one.t what.request.value named (one_named given events later go so_far (event ∷ rest) split sides i asks.0 asks.1 (what.server, what.request.value) asks.2) in
            false≢true (sym apart ∙ eq-eqb i one.agent (sym busy.who ∙ sym (same_agent given events later go so_far one busy.one same)))

        at_server : (what : Served) → (step (fixed_of given) (run given (events ++ so_far)) (Step i)).done.served ≡ Some what → (found : Option State) → up_and (takes one.t) what.request.value found ≡ false
        at_server what served None = refl
        at_server what served (Some st) = by (takes one.t st what.request.value) refl
          where
            by : (b : Bool) → takes one.t st what.request.value ≡ b → (st.up && b) ≡ false
            by true is = absurd (named_not what served (takes_named one.t st what.request.value is))
            by false is = none st.up
              where
                none : (a : Bool) → (a && false) ≡ false
                none a = search arith

        of : (found : Option Served) → (step (fixed_of given) (run given (events ++ so_far)) (Step i)).done.served ≡ found → of_up (takes one.t) (run given (events ++ so_far)) found ≡ false
        of found h1 = search (at_server, arith)

    free_hand : (hinders_itself given one.agent (run given (events ++ so_far)) event || robs given one.agent one.t (run given (events ++ so_far)) event) ≡ false
    free_hand = search (calm, false≢true, eqb-true, has_job, own_served, not_both, others_none, not_robbed, arith)

  -- in the words of its own world
  pub its_hand : (one : Begun given events so_far) → is_running (world_then given events one.before one.agent one.t one.caller one.site one.ops one.after) one.agent one.t ≡ true
      → (hinders_itself given one.agent (world_then given events one.before one.agent one.t one.caller one.site one.ops one.after) event || robs given one.agent one.t
      (world_then given events one.before one.agent one.t one.caller one.site one.ops one.after) event) ≡ false
  its_hand one = search (last_is, free_hand, arith)

  -- ---- each lock is of one that runs still

  may_ask : (event : Event) → MayAsk (fixed_of given) (λ s asked. MayLock (Owned given events later go so_far) asked) (run given (events ++ so_far)) event
  may_ask (Step i) = λ actor asked is next. may_lock given events later go so_far (event ∷ rest) split sides i actor is asked next
  may_ask other = tt

  -- at a server that was up all along
  locks_were : (server : ℕ) (st : State) → server_at (step (fixed_of given) (run given (events ++ so_far)) event).world server ≡ Some st → is_up (run given events) server ≡ true → AllOwned (Owned given events later go so_far) st.locks
  locks_were =
      asks_servers (fixed_of given) (λ s st. is_up (run given events) s ≡ true → AllOwned (Owned given events later go so_far) st.locks) (λ s asked. MayLock (Owned given events later go so_far) asked)
      (λ s st asked may all up. owned_stays (Owned given events later go so_far) st asked may (all up)) w
      (λ server st at up. sides.locks server st at (sym (ap up_in at) ∙ go.stays so_far (event ∷ rest) split server ∙ up)) event (may_ask event)

  -- one that runs no more has left none
  module _ (one : Begun given events so_far) (runs_not : is_running (run given (events ++ (so_far ++ event ∷ []))) one.agent one.t ≡ false) where
    last : world_then given events one.before one.agent one.t one.caller one.site one.ops (one.after ++ event ∷ []) ≡ run given (events ++ (so_far ++ event ∷ []))
    last = last_is given events later go (so_far ++ event ∷ []) (onward given events so_far (event ∷ []) one)

    unmet_on : IsUnmet given events one.before one.agent one.t one.caller one.site one.ops (one.after ++ event ∷ [])
    unmet_on =
        unmet_more given events one.before one.agent one.t one.caller one.site one.ops one.after event (sides.unmet one) (its_hand one)
        (λ running. absurd (false≢true (sym runs_not ∙ ap (λ w. is_running w one.agent one.t) (sym last) ∙ running)))

    abbrev goes : GoesAmongLocks given (events ++ one.before) (one.after ++ event ∷ []) one.agent one.t one.caller one.site one.ops unmet_on.actor
    goes =
        among_of given events one.before one.agent one.t one.caller one.site one.ops (one.after ++ event ∷ []) unmet_on
        (can_of given events later go (so_far ++ event ∷ []) rest split_on (onward given events so_far (event ∷ []) one))

    left_none : (server : ℕ) (st : State) → server_at (run given (events ++ (so_far ++ event ∷ []))) server ≡ Some st → (lock : Lock) → Has st.locks lock → lock.t ≡ one.t → ⊥
    left_none server st at lock has of_it =
        ⊎_elim
        (λ on. false≢true (sym runs_not ∙ ap (λ w. is_running w one.agent one.t) (sym last)
        ∙ course_runs given (events ++ one.before) (one.after ++ event ∷ []) one.agent one.t one.caller one.site one.ops unmet_on.actor
        (steady given (events ++ one.before) (one.after ++ event ∷ []) one.agent one.t one.caller one.site one.ops unmet_on.actor goes) (one.after ++ event ∷ []) on.0))
        (λ over. over.1 server lock.suite (record { lock = lock; has = subst (λ locks. Has locks lock) (sym (ap (λ w. locks_at w server) last ∙ ap locks_in at)) has; of_it = of_it; on_it = refl }))
        (left_at given (events ++ one.before) (one.after ++ event ∷ []) one.agent one.t one.caller one.site one.ops unmet_on.actor goes (one.after ++ event ∷ []) [] (sym (append-nil (one.after ++ event ∷ []))))

  pub locks_now : (server : ℕ) (st : State) → server_at (run given (events ++ (so_far ++ event ∷ []))) server ≡ Some st → st.up ≡ true → AllOwned (Owned given events later go (so_far ++ event ∷ [])) st.locks
  locks_now server st at up lock has =
      let was = locks_were server st (ap (λ w. server_at w server) (sym (run_next given events later go so_far event)) ∙ at)
      (sym (go.stays (so_far ++ event ∷ []) rest split_on server) ∙ ap up_in at ∙ up) lock has in
      of was (is_running (run given (events ++ (so_far ++ event ∷ []))) was.one.agent was.one.t) refl
    where
      of : (was : Owned given events later go so_far lock.t lock.suite lock.mode) (b : Bool)
          → is_running (run given (events ++ (so_far ++ event ∷ []))) was.one.agent was.one.t ≡ b → Owned given events later go (so_far ++ event ∷ []) lock.t lock.suite lock.mode
      of was true running = record { one = onward given events so_far (event ∷ []) was.one; number = was.number; running = running; asks = was.asks }
      of was false runs_not = absurd (left_none was.one runs_not server st at lock has (sym was.number))

  -- ---- two that run do not clash

  abbrev to_last : Begun given events (so_far ++ event ∷ []) → Begun given events later
  to_last one = record {
    before = one.before;
    after = one.after ++ rest;
    agent = one.agent;
    t = one.t;
    caller = one.caller;
    site = one.site;
    ops = one.ops;
    parts = split_on ∙ ap (λ xs. xs ++ rest) one.parts ∙ append_assoc one.before (Begin one.agent (Transaction one.caller one.site one.ops) ∷ one.after) rest;
    begins = one.begins;
  }

  -- what came before the second is of those so far
  front_so : (other : BegunNow) → (more : List Event) × (so_far ≡ other.before ++ more)
  front_so other = search (append-nil, parted, arith)

  first_apart : (one other : BegunNow) (between : List Event) → other.before ≡ one.before ++ Begin one.agent (Transaction one.caller one.site one.ops) ∷ between
      → is_running (run given (events ++ (so_far ++ event ∷ []))) one.agent one.t ≡ true → clash (its_asks given events (so_far ++ event ∷ []) one) (its_asks given events (so_far ++ event ∷ []) other) ≡ false
  first_apart one other between is running =
      let begin_one = Begin one.agent (Transaction one.caller one.site one.ops) in
      let front = front_so other in
      let parts : so_far ≡ one.before ++ begin_one ∷ (between ++ front.0) = front.1 ∙ ap (λ xs. xs ++ front.0) is ∙ append_assoc one.before (begin_one ∷ between) front.0 in
      let was : Begun given events so_far = record { before = one.before; after = between ++ front.0; agent = one.agent; t = one.t; caller = one.caller; site = one.site; ops = one.ops; parts = parts; begins = one.begins } in
      let all : (events ++ (one.before ++ begin_one ∷ between)) ++ (front.0 ++ event ∷ []) ≡ events ++ (so_far ++ event ∷ []) =
      append_assoc events (one.before ++ begin_one ∷ between) (front.0 ++ event ∷ [])
      ∙ ap (λ xs. events ++ xs) (sym (append_assoc (one.before ++ begin_one ∷ between) front.0 (event ∷ [])) ∙ ap (λ xs. xs ++ event ∷ []) (ap (λ xs. xs ++ front.0) (sym is) ∙ sym front.1)) in
      let then' = ran_then given events one.before one.agent one.t one.caller one.site one.ops (between ++ front.0) (sides.unmet was) (can_of given events later go so_far (event ∷ rest) split was) between front.0 refl
      (front.0 ++ event ∷ []) (ap (λ all. is_running (run given all) one.agent one.t) all ∙ running) in
      go.apart (to_last one) (to_last other) (ap (λ xs. is_running (run given (events ++ xs)) one.agent one.t) is ∙ then')

  -- the number is one transaction's
  same_one : (one other : BegunNow) → one.before ≡ other.before → Begin one.agent (Transaction one.caller one.site one.ops) ≡ Begin other.agent (Transaction other.caller other.site other.ops) → one.t ≡ other.t
  same_one one other before begin = search arith

  -- one that runs wants nothing that another has that runs
  never_clash : (one other : BegunNow) → one.t ≢ other.t → is_running (run given (events ++ (so_far ++ event ∷ []))) one.agent one.t ≡ true → is_running (run given (events ++ (so_far ++ event ∷ []))) other.agent other.t ≡ true
      → (a b : ℕ × LockMode) → Contains (its_asks given events (so_far ++ event ∷ []) one) a → Contains (its_asks given events (so_far ++ event ∷ []) other) b → clashes a b ≡ true → ⊥
  never_clash one other apart runs_one runs_other a b has_a has_b is =
      ⊎_elim
      (λ same. apart (same_one one other same.0 same.1))
      (λ order. ⊎_elim
      (λ first. false≢true (sym (first_apart one other first.0 first.1 runs_one) ∙ clash_of (its_asks given events (so_far ++ event ∷ []) one) (its_asks given events (so_far ++ event ∷ []) other) a b has_a has_b is))
      (λ second. false≢true (sym (first_apart other one second.0 second.1 runs_other) ∙ clash_of (its_asks given events (so_far ++ event ∷ []) other) (its_asks given events (so_far ++ event ∷ []) one) b a has_b has_a (clash_back a b is)))
      order)
      (compared one.before other.before (Begin one.agent (Transaction one.caller one.site one.ops)) (Begin other.agent (Transaction other.caller other.site other.ops)) one.after other.after (sym one.parts ∙ other.parts))

  -- ---- nothing is in the way of one that runs

  way_free : (other : BegunNow) → is_running (run given (events ++ (so_far ++ event ∷ []))) other.agent other.t ≡ true → (one : ℕ × LockMode) → Contains (its_asks given events (so_far ++ event ∷ []) other) one → (server : ℕ)
      → in_its_way (run given (events ++ (so_far ++ event ∷ []))) other.t one.0 one.1 server ≡ false
  way_free other running one has server = of (server_at (run given (events ++ (so_far ++ event ∷ []))) server) refl
    where
      of : (found : Option State) → server_at (run given (events ++ (so_far ++ event ∷ []))) server ≡ found → is_way_met (way_in other.t one.0 one.1 found) ≡ false
      of None at = refl
      of (Some st) at = by st.up refl (in_the_way other.t one.0 one.1 st.locks) refl
        where
          by : (up : Bool) → st.up ≡ up → (found : Option Lock) → in_the_way other.t one.0 one.1 st.locks ≡ found → is_way_met (cond up (Some (option_map (λ (lock : Lock). lock.t) found)) None) ≡ false
          by false up found is = refl
          by true up None is = refl
          by true up (Some lock) is =
              let some = find_some (conflicts other.t one.0 one.1) st.locks lock is in
              let parts = conflict_parts other.t one.0 one.1 lock some.1 in
              let own = locks_now server st at up lock some.0 in
              absurd (never_clash own.one other (λ same. false≢true (sym parts.1 ∙ eq-eqb lock.t other.t (sym own.number ∙ same))) own.running running (lock.suite, lock.mode) one own.asks has
              (and_from (lock.suite == one.0) (is_exclusive lock.mode || is_exclusive one.1) (eq-eqb lock.suite one.0 parts.0) (or_same (is_exclusive one.1) (is_exclusive lock.mode) parts.2)))

  stands_now : (other : BegunNow) → is_running (run given (events ++ (so_far ++ event ∷ []))) other.agent other.t ≡ true
      → StandsOpen (run given (events ++ other.before)) (run given (events ++ (so_far ++ event ∷ []))) other.t (asks_for given (events ++ other.before) other.t other.caller other.ops) everywhere
  stands_now other running = record {
    up = λ server near. go.stays (so_far ++ event ∷ []) rest split_on server ∙ sym (go.stays other.before (Begin other.agent (Transaction other.caller other.site other.ops) ∷ (other.after ++ rest)) (to_last other).parts server);
    way = λ server one near has. way_free other running one has server;
  }

  pub stands_then : (other : BegunNow) → is_running (world_then given events other.before other.agent other.t other.caller other.site other.ops other.after) other.agent other.t ≡ true
      → StandsOpen (run given (events ++ other.before)) (world_then given events other.before other.agent other.t other.caller other.site other.ops other.after) other.t
      (asks_for given (events ++ other.before) other.t other.caller other.ops) everywhere
  stands_then other = search (stands_now other, last_is, arith)
