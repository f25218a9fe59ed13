-- A transaction that goes steadily ends within a number of its own steps that its table tells.
use Rattle.law_run_recovers.proofs.Vocabulary.{◌≡◌, ◌⊎◌, inl, inr, ⊎_elim, ℕ, ◌+◌, ◌<◌, ◌≤◌, Bool, true, false, cond, List, [], ◌∷◌, ◌++◌, append_assoc, length, Some, is_some, refl, sym, ap, subst, ◌∙◌, arith, Option, suc, zero, None, ◌==◌, ◌&&◌}
use Rattle.law_run_recovers.proofs.Vocabulary.{cons_option, list_all, list_all-append, slice_get_within, none-some, slice_get_cases, Identity, Opening, Op, reply_of, Has, has_any, contains_from, any_has, has_filter, has_from, Transaction, Replied}
use Rattle.law_run_recovers.proofs.Vocabulary.{Lacked, numbers_from, request_in, Agent, fixed_of, next_in, next_of, begin, after_all, is_idle, Exchange, exchange_of, exchanges, among, asks_only, names_of, names_only, says_held, exchanges-take}
use Rattle.law_run_recovers.proofs.Vocabulary.{exchanges-forget, Event, Begin, Step, EndedJob, Actor, World, step, server_at, dones, outcomes, run, table_of, number_of, so_many, its_step, own_steps, few_steps, begun_world, world_after}
use Rattle.law_run_recovers.proofs.Vocabulary.{hinders_itself, Ending, Finishing, Request, Response, State, Verdict, VotesAreValid, and_parts, eqb-true, false≢true, append_has_right, asks_same, cache_valid, copy_valid, is_finish, jobs_end, locked}
use Rattle.law_run_recovers.proofs.Vocabulary.{sent_to, wants_lock, was_locked, max_servers, Always, EndInTime, GoesAmongLocks, GoesUnmet, eq-eqb}
use Rattle.law_agents.proofs.Orders.{finishes_in_order}
use Rattle.law_run_recovers.specs.Ends.{Ended}
use Rattle.txn_core.specs.Agents as agents
use Rattle.law_run_recovers.proofs.Steady.{GoesSteadily, steady}
use Rattle.law_run_recovers.proofs.Apart.{event_apart}
use Rattle.law_run_recovers.proofs.AmongOver.{has_after}
use Rattle.law_run_recovers.proofs.Keeps.{run_at}
use Rattle.law_run_recovers.proofs.KnownStays.{among_numbers}
use Rattle.law_run_recovers.proofs.Names.{suites_named, names_for, CountedOf, few_enough}
use Rattle.law_run_recovers.proofs.NearGround.{its, Known, ground, number, sight, can_first}
use Rattle.law_run_recovers.proofs.StepsServed.{own_took}
use Rattle.law_run_recovers.proofs.Open.{unmet_is_among_locks}
use Rattle.law_run_recovers.proofs.AmongCourse.{Course, RunsIt, runs_it, next_is, apart_on}
use Rattle.law_run_recovers.proofs.AmongBegin.{idle_before, first_course, first_told}
use Rattle.law_run_recovers.proofs.AmongStep.{own_on}
use Rattle.law_run_recovers.proofs.InTime.{AllShow, Shows, exchanges_show, reply_shows, show_both}
use Rattle.rep_core.specs.declared.request.Request.TheVariants as request
use Rattle.law_run_recovers.proofs.AmongAt.{can_so_far}
use Rattle.law_run_recovers.proofs.Lacking.{hindered}
use Rattle.law_run_recovers.proofs.AmongLacks.{lack_on, tells_now}

-- ---- lists

pub all_has : {X : Type 0} (p : X → Bool) (xs : List X) (x : X) → list_all p xs ≡ true → Has xs x → p x ≡ true
all_has p [] x all has = absurd has
all_has p (y ∷ ys) x all (inl same) = ap p (sym same) ∙ (and_parts (p y) (list_all p ys) all).0
all_has p (y ∷ ys) x all (inr rest) = all_has p ys x (and_parts (p y) (list_all p ys) all).1 rest

one_longer : {X : Type 0} (xs : List X) (x : X) → length (xs ++ x ∷ []) ≡ length xs + 1
one_longer [] x = refl
one_longer (y ∷ xs) x = let rest = one_longer xs x in omega (arith, rest)

and_one : (a b : Bool) → a ≡ true → b ≡ true → (a && (b && true)) ≡ true
and_one a b h2 h3 = search arith

step_of : (agent : ℕ) (event : Event) → its_step agent event ≡ true → event ≡ Step agent
step_of agent event h2 = search arith

-- who is among so many numbers is below their end
below : (count start n : ℕ) → among (numbers_from start count) n ≡ true → n < start + count
below zero start n is = absurd (false≢true is)
below (suc count) start n is = search (eqb-true, below count (start + 1) n, arith)

module _ (given : Opening) (events later : List Event) (agent t : ℕ) (caller : Identity) (site : ℕ) (ops : List Op) (actor : Actor) (goes : GoesSteadily given events later agent t caller site ops actor) where
  abbrev begun : Agent
  begun = begin (fixed_of given) actor.agent (Transaction caller site ops)

  abbrev servers : List ℕ
  servers = numbers_from 0 given.servers

  abbrev suites : List ℕ
  suites = suites_named (table_of given events) (its given events later agent t caller site ops actor goes)

  abbrev past : List agents.Event → List Exchange
  past told = exchanges (fixed_of given) begun told

  -- it was told this, in so many exchanges, with servers that there are, of suites that its table names
  record Counted (told : List agents.Event) (so_far : ℕ) : Type 0 where
    counts : CountedOf (fixed_of given) begun servers suites told so_far
    shows : AllShow told

  -- it runs still, and was told of so many exchanges at least
  record Runs (so_far : ℕ) : Type 0 where
    told : List agents.Event
    many : ℕ
    least : so_far ≤ many
    counted : Counted told many

  record OneEnds (so_far rest : List Event) : Type 0 where
    one : EndedJob
    there : Has (outcomes (dones (fixed_of given) (world_after given events agent caller site ops so_far) rest)) one
    of_it : number_of one ≡ t

  -- ---- a request of its own

  module _ (so_far rest : List Event) (split : later ≡ so_far ++ rest) (c : Course given events later agent t caller site ops actor goes so_far) where
    run_so : world_after given events agent caller site ops so_far ≡ run given (events ++ Begin agent (Transaction caller site ops) ∷ so_far)
    run_so = run_at given events later agent t caller site ops actor goes.can goes.there goes.begins so_far

    many_servers : length (world_after given events agent caller site ops so_far).servers ≡ given.servers
    many_servers = ap (λ (w : World). length w.servers) run_so ∙ (so_many given (events ++ Begin agent (Transaction caller site ops) ∷ so_far)).0

    module _ (asked : ℕ × Request) (next : next_of (fixed_of given) c.here.agent ≡ Some asked) where
      next_told : next_of (fixed_of given) (after_all (fixed_of given) begun c.told) ≡ Some asked
      next_told = ap (next_of (fixed_of given)) (sym c.is) ∙ next

      request_of : (r : RunsIt given events later agent t caller site ops actor goes so_far c)
          → request_in (fixed_of given) (its given events later agent t caller site ops actor goes) r.txn_run.suites r.txn_run.phase ≡ Some (asked.0, asked.1)
      request_of r = subst (λ task. request_in (fixed_of given) task r.txn_run.suites r.txn_run.phase ≡ Some (asked.0, asked.1)) r.at.0 (sym (ap (next_in (fixed_of given)) r.running) ∙ next)

      -- a server that there is
      there_known : (st : State) → server_at (world_after given events agent caller site ops so_far) asked.0 ≡ Some st → among servers asked.0 ≡ true
      there_known st at =
          let w = world_after given events agent caller site ops so_far in
          let few : asked.0 < length w.servers = slice_get_within w.servers asked.0 st at in
          let many = many_servers in
          has_any (λ n. n == asked.0) servers asked.0 (among_numbers given.servers 0 asked.0 (omega arith) (omega (arith, few, many))) (eq-eqb asked.0 asked.0 refl)

      -- it tells its end to servers that gave it locks
      tells_known : (servers' : List ℕ) (v : Verdict) (ending : Ending) (r : RunsIt given events later agent t caller site ops actor goes so_far c) → r.txn_run.phase ≡ Finishing servers' v ending → asks_only servers (past c.told) ≡ true
          → among servers asked.0 ≡ true
      tells_known servers' v ending r is only =
          let finish = of servers' (ap (request_in (fixed_of given) (its given events later agent t caller site ops actor goes) r.txn_run.suites) (sym is) ∙ request_of r) in
          let one = finishes_in_order (fixed_of given) actor.agent caller site ops c.told asked.0 (its given events later agent t caller site ops actor goes).t v (idle_before given events later agent t caller site ops actor goes)
          (next_told ∙ ap (λ request. Some (asked.0, request)) finish) in
          let has : Has (locked (past c.told)) asked.0 = subst (λ all. Has all asked.0) (sym one.servers) (append_has_right (sent_to is_finish (past c.told)) (asked.0 ∷ one.left) asked.0 (inl refl)) in
          let held = has_filter (was_locked (past c.told)) (numbers_from 0 max_servers) asked.0 has in
          let told = any_has (λ (one : Exchange). (one.server == asked.0) && wants_lock one.request && says_held one.response) (past c.told) held.1 in
          let parts = and_parts ((told.0.server == asked.0) && wants_lock told.0.request) (says_held told.0.response) told.2 in
          let more = and_parts (told.0.server == asked.0) (wants_lock told.0.request) parts.0 in
          ap (among servers) (sym (eqb-true told.0.server asked.0 more.0)) ∙ all_has (λ (one : Exchange). among servers one.server) (past c.told) told.0 only told.1
        where
          of : (servers' : List ℕ) → request_in (fixed_of given) (its given events later agent t caller site ops actor goes) r.txn_run.suites (Finishing servers' v ending) ≡ Some (asked.0, asked.1)
              → asked.1 ≡ request.Finish (its given events later agent t caller site ops actor goes).t v
          of servers' h1 = search (none-some, asks_same, its, arith)

      module _ (r : RunsIt given events later agent t caller site ops actor goes so_far c) (known : among servers asked.0 ≡ true) (heard : Response) (shown : Shows (agents.Take heard)) where
        past_is : past (c.told ++ agents.Take heard ∷ []) ≡ past c.told ++ record { server = asked.0; request = asked.1; response = heard } ∷ []
        past_is = exchanges-take (fixed_of given) begun c.told heard ∙ ap (λ asked. past c.told ++ exchange_of asked heard) next_told

        named : names_of suites asked.1 ≡ true
        named =
            names_for (fixed_of given) (run given events) (sight given events later agent t caller site ops actor goes) (table_of given events) (its given events later agent t caller site ops actor goes) actor.agent.cache
            (Known given events later agent t caller site ops actor goes) (ground given events later agent t caller site ops actor goes) c.here.agent.cache r.txn_run.suites r.txn_run.phase r.at.1 asked.0 asked.1
            (request_of r)

        -- one more
        counted_on : (k : ℕ) → Counted c.told k → Counted (c.told ++ agents.Take heard ∷ []) (k + 1)
        counted_on k counted = search (past_is, list_all-append, and_one, named, one_longer, show_both, arith)

    -- it asks something, and where its end is fixed a server that there is
    module _ (k : ℕ) (counted : Counted c.told k) where
      votes_valid : VotesAreValid (fixed_of given) actor.agent (exchanges (fixed_of given) begun c.told)
      votes_valid = record {
        servers = let some = goes.can.accepted.some_servers.0 in omega (arith, some);
        opening = record { known = goes.can.accepted.known_servers; valid = goes.can.c0 };
        cached = cache_valid given events (can_first given events later agent t caller site ops actor goes) agent actor goes.there;
        replied = λ one said there is. exchanges_show (fixed_of given) begun c.told counted.shows one said (has_from (past c.told) one there) is;
      }

      asks_some : is_some (next_of (fixed_of given) c.here.agent) ≡ true
      asks_some =
          ap (λ a. is_some (next_of (fixed_of given) a)) c.is
          ∙ jobs_end.asks (fixed_of given) actor.agent (Transaction caller site ops) c.told (idle_before given events later agent t caller site ops actor goes) votes_valid (ap (λ (a : Agent). is_idle a.doing) (sym c.is) ∙ c.busy)

      -- so something comes of it
      not_nothing : (servers' : List ℕ) (v : Verdict) (ending : Ending) (r : RunsIt given events later agent t caller site ops actor goes so_far c) → r.txn_run.phase ≡ Finishing servers' v ending
          → ((asked : ℕ × Request) → next_of (fixed_of given) c.here.agent ≡ Some asked → server_at (world_after given events agent caller site ops so_far) asked.0 ≡ None) → ⊥
      not_nothing servers' v ending r is none = of (next_of (fixed_of given) c.here.agent) refl asks_some
        where
          of : (found : Option (ℕ × Request)) → next_of (fixed_of given) c.here.agent ≡ found → is_some found ≡ true → ⊥
          of None next some = false≢true some
          of (Some asked) next some =
              let w = world_after given events agent caller site ops so_far in
              let known = tells_known asked next servers' v ending r is counted.counts.asks in
              ⊎_elim
              (λ there. none-some there.0 (sym (none asked next) ∙ there.2))
              (λ past'.
              let most = past'.0 in
              let many = many_servers in
              let few = below given.servers 0 asked.0 known in
              absurd (omega (arith, most, many, few)))
              (slice_get_cases w.servers asked.0).1

  -- ---- all along

  lasts : (rest so_far : List Event) → later ≡ so_far ++ rest → (c : Course given events later agent t caller site ops actor goes so_far) (k : ℕ) → Counted c.told k → OneEnds so_far rest ⊎ Runs (k + own_steps agent rest)
  lasts [] so_far split c k counted = search arith
  lasts (event ∷ rest) so_far split c k counted =
      of (hinders_itself given agent (world_after given events agent caller site ops so_far) event) refl (λ c k counted. lasts rest (so_far ++ event ∷ []) (split ∙ sym (append_assoc so_far (event ∷ []) rest)) c k counted)
    where
      Rest : Type 0
      Rest = (c : Course given events later agent t caller site ops actor goes (so_far ++ event ∷ [])) (k : ℕ) → Counted c.told k → OneEnds (so_far ++ event ∷ []) rest ⊎ Runs (k + own_steps agent rest)

      -- it was one step, or none, and so many exchanges
      lift : (j x : ℕ) → k + x ≤ j → cond (its_step agent event) 1 0 ≡ x → OneEnds (so_far ++ event ∷ []) rest ⊎ Runs (j + own_steps agent rest) → OneEnds so_far (event ∷ rest) ⊎ Runs (k + own_steps agent (event ∷ rest))
      lift j x most steps (inl it) = inl (record {
        one = it.one;
        there = has_after (step (fixed_of given) (world_after given events agent caller site ops so_far) event).done.outcome
            (outcomes (dones (fixed_of given) (step (fixed_of given) (world_after given events agent caller site ops so_far) event).world rest)) it.one
            (subst (λ w. Has (outcomes (dones (fixed_of given) w rest)) it.one) (next_is given events later agent t caller site ops actor goes so_far event) it.there);
        of_it = it.of_it;
      })
      lift j x most steps (inr runs) = inr (record {
        told = runs.told;
        many = runs.many;
        least = subst (λ n. k + (n + own_steps agent rest) ≤ runs.many) (sym steps) (more j x (own_steps agent rest) runs.many most runs.least);
        counted = runs.counted;
      })
        where
          more : (j x r n : ℕ) → k + x ≤ j → j + r ≤ n → k + (x + r) ≤ n
          more j x r n most least = omega (arith, most, least)

      not_its : (other : Event) → (other ≡ Step agent → ⊥) → its_step agent other ≡ false
      not_its other apart = of (its_step agent other) refl
        where
          of : (b : Bool) → its_step agent other ≡ b → b ≡ false
          of true is = absurd (apart (step_of agent other is))
          of false is = refl

      -- its job ended in it
      ended_now : (one : EndedJob) → (step (fixed_of given) (world_after given events agent caller site ops so_far) event).done.outcome ≡ Some one → number_of one ≡ t
          → OneEnds so_far (event ∷ rest) ⊎ Runs (k + own_steps agent (event ∷ rest))
      ended_now one is of_it = inl (record {
        one = one;
        there = subst (λ found. Has (cons_option found (outcomes (dones (fixed_of given) (step (fixed_of given) (world_after given events agent caller site ops so_far) event).world rest))) one) (sym is) (inl refl);
        of_it = of_it;
      })

      aside : (event ≡ Step agent → ⊥) → (on : Course given events later agent t caller site ops actor goes (so_far ++ event ∷ [])) × ((on.told ≡ c.told) ⊎ ((site' : ℕ) × (on.told ≡ c.told ++ agents.Forget site' ∷ []))) → Rest
          → OneEnds so_far (event ∷ rest) ⊎ Runs (k + own_steps agent (event ∷ rest))
      aside apart on go =
          lift k 0 (zero k) (ap (λ b. cond b 1 0) (not_its event apart))
          (go on.0 k (⊎_elim
          (λ same. subst (λ told. Counted told k) (sym same) counted)
          (λ gone. subst (λ told. Counted told k) (sym gone.1) (forgot gone.0)) on.1))
        where
          zero : (k : ℕ) → k + 0 ≤ k
          zero k = omega arith

          forgot : (site' : ℕ) → Counted (c.told ++ agents.Forget site' ∷ []) k
          forgot site' =
              let same = exchanges-forget (fixed_of given) begun c.told site' in
              let so = counted.counts in
              record {
                counts = record { asks = ap (asks_only servers) same ∙ so.asks; names = ap (names_only suites) same ∙ so.names; many = ap length same ∙ so.many };
                shows = show_both c.told (agents.Forget site' ∷ []) counted.shows (tt, tt);
              }

      one_more_step : k + 1 ≤ k + 1
      one_more_step = omega arith

      own_step : event ≡ Step agent → is_some (step (fixed_of given) (world_after given events agent caller site ops so_far) event).done.served ≡ true → Rest → OneEnds so_far (event ∷ rest) ⊎ Runs (k + own_steps agent (event ∷ rest))
      own_step is served go =
          let split' : later ≡ so_far ++ Step agent ∷ rest = split ∙ ap (λ event. so_far ++ event ∷ rest) is in
          let took = own_took (fixed_of given) (world_after given events agent caller site ops so_far) agent c.here c.there
          (subst (λ event. is_some (step (fixed_of given) (world_after given events agent caller site ops so_far) event).done.served ≡ true) is served) in
          let r = runs_it given events later agent t caller site ops actor goes so_far c in
          let said = reply_of took.st took.asked.1 in
          let can = can_so_far given events later agent t caller site ops actor goes so_far (event ∷ rest) split in
          let valid = copy_valid given (events ++ Begin agent (Transaction caller site ops) ∷ so_far) can took.asked.0 took.st (ap (λ w. server_at w took.asked.0) (sym (run_so so_far (event ∷ rest) split c)) ∙ took.at) in
          let counted' = counted_on so_far (event ∷ rest) split c took.asked took.next r (there_known so_far (event ∷ rest) split c took.asked took.next took.st took.at) (Replied said) (reply_shows took.st took.asked.1 valid) k counted in
          ⊎_elim
          (λ on.
          lift (k + 1) 1 one_more_step (ap (λ event. cond (its_step agent event) 1 0) is ∙ ap (λ b. cond b 1 0) (eq-eqb agent agent refl))
          (subst (λ event. ((c : Course given events later agent t caller site ops actor goes (so_far ++ event ∷ [])) (k : ℕ) → Counted c.told k → OneEnds (so_far ++ event ∷ []) rest ⊎ Runs (k + own_steps agent rest)) → OneEnds
          (so_far ++ event ∷ []) rest ⊎ Runs (k + 1 + own_steps agent rest)) (sym is)
          (λ go. go on.0 (k + 1) (subst (λ told. Counted told (k + 1)) (sym on.1) counted')) go))
          (λ ended. ended_now ended.0 (ap (λ event. (step (fixed_of given) (world_after given events agent caller site ops so_far) event).done.outcome) is ∙ ended.1) ended.2)
          (own_on given events later agent t caller site ops actor goes so_far rest split' c r took)

      -- a step that is not served, or that it is told of, is one exchange
      few : (b : Bool) → k + cond b 1 0 ≤ k + 1
      few true = omega arith
      few false = omega arith

      hindered_on : hinders_itself given agent (world_after given events agent caller site ops so_far) event ≡ true → Rest → OneEnds so_far (event ∷ rest) ⊎ Runs (k + own_steps agent (event ∷ rest))
      hindered_on hinders go =
          let tells = tells_now given events later agent t caller site ops actor goes so_far rest event split c hinders in
          ⊎_elim
          (λ lacks.
          let counted' = counted_on so_far (event ∷ rest) split c lacks.asked lacks.next tells.r (tells_known so_far (event ∷ rest) split c lacks.asked lacks.next tells.servers tells.v tells.ending tells.r tells.is counted.counts.asks)
          (Lacked lacks.why) tt k counted in
          ⊎_elim
          (λ on. lift (k + 1) (cond (its_step agent event) 1 0) (few (its_step agent event)) refl (go on.0 (k + 1) (subst (λ told. Counted told (k + 1)) (sym on.1) counted')))
          (λ ended. ended_now ended.0 ended.1 ended.2)
          (lack_on given events later agent t caller site ops actor goes so_far rest event split c hinders lacks))
          (λ nothing. absurd (not_nothing so_far (event ∷ rest) split c k counted tells.servers tells.v tells.ending tells.r tells.is nothing.none))
          (hindered given agent (world_after given events agent caller site ops so_far) c.here c.there event hinders)

      of : (b : Bool) → hinders_itself given agent (world_after given events agent caller site ops so_far) event ≡ b → Rest → OneEnds so_far (event ∷ rest) ⊎ Runs (k + own_steps agent (event ∷ rest))
      of false calm go =
          ⊎_elim
          (λ apart. aside apart.1 (apart_on given events later agent t caller site ops actor goes so_far rest event split c apart.0 apart.1) go)
          (λ own. own_step own.0 own.1 go)
          (event_apart given agent (world_after given events agent caller site ops so_far) c.here c.there c.busy event calm)
      of true hinders go = hindered_on hinders go

  -- ---- the law

  pub in_time : few_steps given events t caller ops < own_steps agent later → Ended given events later agent t caller site ops
  in_time more =
      of (lasts later [] refl (first_course given events later agent t caller site ops actor goes) 0 (subst (λ told. Counted told 0) (sym (first_told given events later agent t caller site ops actor goes))
      (record { counts = record { asks = refl; names = refl; many = refl }; shows = tt })))
    where
      over : (b n m : ℕ) → b < n → 0 + n ≤ m → m ≤ b → ⊥
      over b n m less least most = omega (arith, less, least, most)

      of : OneEnds [] later ⊎ Runs (0 + own_steps agent later) → Ended given events later agent t caller site ops
      of (inl it) = record { job = it.one; ends = record { there = contains_from (outcomes (dones (fixed_of given) (begun_world given events agent caller site ops) later)) it.one it.there; of_it = it.of_it } }
      of (inr runs) =
          absurd (over (few_steps given events t caller ops) (own_steps agent later) runs.many more runs.least
          (few_enough given events actor.agent t caller site ops (number given events later agent t caller site ops actor goes) (idle_before given events later agent t caller site ops actor goes) runs.many runs.told runs.counted.counts))

pub among_locks_end_in_time : Always (EndInTime GoesAmongLocks)
among_locks_end_in_time given events later agent t caller site ops actor goes more = search (in_time, steady, arith)

pub unmet_end_in_time : Always (EndInTime GoesUnmet)
unmet_end_in_time given events later agent t caller site ops actor goes more = search (among_locks_end_in_time, unmet_is_among_locks, arith)
