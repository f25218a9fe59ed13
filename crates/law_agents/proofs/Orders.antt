-- A transaction asks in order.
use Rattle.law_agents.proofs.Vocabulary.{◌≡◌, ℕ, ◌+◌, ◌≤◌, ◌<◌, Bool, true, false, cond, inl, inr, List, [], ◌∷◌, ◌++◌, Option, Some, None, refl, sym, ap, subst, ◌∙◌, arith, ◌==◌, ◌&&◌, nat_lt, map, filter, Contains, eqb-true, false≢true, append-nil}
use Rattle.law_agents.proofs.Vocabulary.{map-append, Contains-push_cases, Contains-append_right, filter-append, same_Some, Identity, Op, has_from, contains_from, is_prepared, Request, Verdict, Cache, Suites, suite_of, parts_at, Response, Replied}
use Rattle.law_agents.proofs.Vocabulary.{Lacked, Cause, Lost, Ending, Undecided, Job, Transaction, home_of, Fixed, Task, Proposal, Phase, Gathering, Fetching, Widening, Preparing, Deciding, Finishing, TransactionRun, Doing, Running, RunningSweep}
use Rattle.law_agents.proofs.Vocabulary.{After, GoesOn, tell_end, give_up, prepare, locked_at, after_response, request_in, request_of, changes_of, decision_of, verdict_in, ending_by, cause_of_abort, lack_cause, Agent, Event, next_in, next_of}
use Rattle.law_agents.proofs.Vocabulary.{take_in, begin, started, is_idle, has_sense, max_jobs, after_all, Exchange, of_job, is_decide, is_prepare, says_prepared, told_verdict, task_of, is_finish, asks_same, asked_as, fetched_as, StandsOn, self}
use Rattle.law_agents.proofs.Vocabulary.{Base, Keeps, plus_all, nothing_held, all_keep, begin_keeps, Are, are_nil, Base_of, Started, Begins, DoingStands, stands_after, IsEarly, append_assoc}
use Rattle.txn_core.proofs.Mild.{finish_carries_the_verdict}
use Rattle.law_agents.specs.Orders.{stage, number_of, locked, sent_to, IsInOrder, StagesRise, AllPrepared, IsPreparing, PreparesInOrder, IsDeciding, DecidesInOrder, IsFinishing, FinishesInOrder, AllFinish}
use Rattle.rep_core.specs.declared.request.Request.TheVariants as request
use Rattle.rep_core.specs.declared.reply.Verdict.TheVariants as verdict
use Rattle.txn_core.specs.Agents as agents
use Rattle.law_agents.proofs.Along.{always}
use Rattle.law_agents.proofs.Hearing.{tells, push, goes_on, goes_execute}
use Rattle.law_agents.proofs.Lockeds.{HeardOf, heard_of_are, locked_is, locked_still}

-- ---- stages

abbrev UpTo : ℕ → List Exchange → Type 0
UpTo n past = (one : Exchange) → Contains past one → stage one.request ≤ n

up_push : (n : ℕ) (past : List Exchange) (server : ℕ) (asked : Request) (heard : Response) → UpTo n past → stage asked ≤ n → UpTo n (push past server asked heard)
up_push n past server asked heard up here one has =
    elim (Contains-push_cases past (record { server = server; request = asked; response = heard }) one has) [
      | inl before ↦ up one before
      | inr same ↦ subst (λ (one : Exchange). stage one.request ≤ n) same here
    ]

up_more : (n m : ℕ) (past : List Exchange) → n ≤ m → UpTo n past → UpTo m past
up_more n m past more up one has = let least = up one has in omega (arith, more, least)

up_none : (n : ℕ) → UpTo n []
up_none n one has = absurd (has_from [] one has)

no_prepare : (asked : Request) → stage asked ≤ 0 → is_prepare asked ≡ false
no_prepare (request.Prepare t parts) low = let never : 1 ≤ 0 = low in absurd (omega (arith, never))
no_prepare other low = refl

no_decide : (asked : Request) → stage asked ≤ 1 → is_decide asked ≡ false
no_decide (request.Decide t decision) low = let never : 2 ≤ 1 = low in absurd (omega (arith, never))
no_decide other low = refl

no_finish : (asked : Request) → stage asked ≤ 2 → is_finish asked ≡ false
no_finish (request.Finish t v) low = let never : 3 ≤ 2 = low in absurd (omega (arith, never))
no_finish other low = refl

-- ---- who got a request of a kind

sent_none : (kind : Request → Bool) (past : List Exchange) → ((one : Exchange) → Contains past one → kind one.request ≡ false) → sent_to kind past ≡ []
sent_none kind [] none = refl
sent_none kind (one ∷ past) none =
    ap (λ b. map (λ (one : Exchange). one.server) (cond b (one ∷ filter (λ one. kind one.request) past) (filter (λ one. kind one.request) past))) (none one (contains_from (one ∷ past) one (inl refl)))
    ∙ sent_none kind past (λ other has. none other (Contains-append_right (one ∷ []) past other has))

sent_push : (kind : Request → Bool) (past : List Exchange) (server : ℕ) (asked : Request) (heard : Response) → sent_to kind (push past server asked heard) ≡ sent_to kind past ++ cond (kind asked) (server ∷ []) []
sent_push kind past server asked heard =
    let one : Exchange = record { server = server; request = asked; response = heard } in
    let servers : List Exchange → List ℕ = map (λ one. one.server) in
    let passes : Exchange → Bool = λ one. kind one.request in
    ap servers (filter-append passes past (one ∷ [])) ∙ map-append (λ (one : Exchange). one.server) (filter passes past) (filter passes (one ∷ [])) ∙ ap (λ last. sent_to kind past ++ last) (of (kind asked))
  where
    of : (b : Bool) → map (λ (one : Exchange). one.server) (cond b (record { server = server; request = asked; response = heard } ∷ []) []) ≡ cond b (server ∷ []) []
    of true = refl
    of false = refl

-- one more got it, of those that were to get it
sent_next : (kind : Request → Bool) (past : List Exchange) (server : ℕ) (asked : Request) (heard : Response) (left all : List ℕ) → kind asked ≡ true → all ≡ sent_to kind past ++ server ∷ left
    → all ≡ sent_to kind (push past server asked heard) ++ left
sent_next kind past server asked heard left all is so =
    so ∙ sym (ap (λ sent. sent ++ left) (sent_push kind past server asked heard ∙ ap (λ b. sent_to kind past ++ cond b (server ∷ []) []) is) ∙ append_assoc (sent_to kind past) (server ∷ []) left)

prepared_push : (past : List Exchange) (server : ℕ) (asked : Request) (heard : Response) → AllPrepared past → (is_prepare asked ≡ true → says_prepared heard ≡ true) → AllPrepared (push past server asked heard)
prepared_push past server asked heard all here one has =
    elim (Contains-push_cases past (record { server = server; request = asked; response = heard }) one has) [
      | inl before ↦ all one before
      | inr same ↦ subst (λ (one : Exchange). is_prepare one.request ≡ true → says_prepared one.response ≡ true) same here
    ]

prepared_low : (past : List Exchange) → UpTo 0 past → AllPrepared past
prepared_low past up one has is = absurd (false≢true (sym (no_prepare one.request (up one has)) ∙ is))

none_prepared : (past : List Exchange) → UpTo 0 past → sent_to is_prepare past ≡ []
none_prepared past up = sent_none is_prepare past (λ one has. no_prepare one.request (up one has))

none_finished : (n : ℕ) (past : List Exchange) → n ≤ 2 → UpTo n past → sent_to is_finish past ≡ []
none_finished n past most up = sent_none is_finish past (λ one has. no_finish one.request (let least = up one has in omega (arith, most, least)))

-- ---- what stands in each phase

module _ (fixed : Fixed) (agent : Agent) (caller : Identity) (site : ℕ) (ops : List Op) where
  abbrev job : Job
  job = Transaction caller site ops

  abbrev InPhase : List Exchange → Suites → Phase → Type 0
  InPhase past suites (Preparing left outcome) = UpTo 1 past × (locked_at suites ≡ sent_to is_prepare past ++ left) × AllPrepared past
  InPhase past suites (Deciding outcome) = UpTo 1 past × (locked_at suites ≡ sent_to is_prepare past) × AllPrepared past
  InPhase past suites (Finishing left v ending) = UpTo 3 past × (locked_at suites ≡ sent_to is_finish past ++ left)
  InPhase past suites other = UpTo 0 past

  abbrev Orders : List Exchange → Option Doing → Type 0
  Orders past (Some (Running running)) = (running.task ≡ task_of agent caller site ops) × InPhase past running.suites running.phase
  Orders past (Some (RunningSweep sweeping)) = ⊥
  Orders past None = sent_to is_finish past ≡ locked past

  abbrev LeftIs : List Exchange → After TransactionRun → Type 0
  LeftIs past after = Orders past (agents.left Running after)

  module _ (task : Task) (same : task ≡ task_of agent caller site ops) where
    -- the end is told on
    ends_on : (past : List Exchange) (cache : Cache) (suites : Suites) (v : Verdict) (ending : Ending) (left : List ℕ) → locked past ≡ locked_at suites → UpTo 3 past → locked_at suites ≡ sent_to is_finish past ++ left
        → LeftIs past (tell_end task cache suites v ending left).after
    ends_on past cache suites v ending [] all up is = sym (all ∙ is ∙ append-nil (sent_to is_finish past))
    ends_on past cache suites v ending (server ∷ left) all up is = (same, (up, is))

    -- it begins to be told
    ends : (past : List Exchange) (cache : Cache) (suites : Suites) (v : Verdict) (ending : Ending) → locked past ≡ locked_at suites → UpTo 2 past → LeftIs past (tell_end task cache suites v ending (locked_at suites)).after
    ends past cache suites v ending all up =
        ends_on past cache suites v ending (locked_at suites) all (up_more 2 3 past (omega arith) up) (ap (λ sent. sent ++ locked_at suites) (sym (none_finished 2 past (omega arith) up)))

    prepares_on : (past : List Exchange) (cache : Cache) (suites : Suites) (outcome : Proposal) (left : List ℕ) → UpTo 1 past → locked_at suites ≡ sent_to is_prepare past ++ left → AllPrepared past
        → LeftIs past (prepare task cache suites outcome left).after
    prepares_on past cache suites outcome [] up is prepared = (same, (up, is ∙ append-nil (sent_to is_prepare past), prepared))
    prepares_on past cache suites outcome (server ∷ left) up is prepared = (same, (up, is, prepared))

    -- ---- while it gathers

    module _ (past : List Exchange) (up : UpTo 0 past) where
      early : (suites : Suites) (phase : Phase) → IsEarly phase → Are (tells past) suites → LeftIs past (GoesOn (record { task = task; suites = suites; phase = phase }))
      early suites (Preparing left outcome) is are = absurd is
      early suites (Deciding outcome) is are = absurd is
      early suites (Finishing servers v ending) is are = absurd is
      early suites other is are = (same, up)

      given_up : (cache : Cache) (suites : Suites) (cause : Cause) → Are (tells past) suites → LeftIs past (give_up task cache suites cause).after
      given_up cache suites cause are = ends past cache suites verdict.Aborted (Undecided cause) (locked_is past suites (heard_of_are past suites are)) (up_more 0 2 past (omega arith) up)

      prepares : (cache : Cache) (suites : Suites) (outcome : Proposal) → Are (tells past) suites → LeftIs past (prepare task cache suites outcome (locked_at suites)).after
      prepares cache suites outcome are =
          prepares_on past cache suites outcome (locked_at suites) (up_more 0 1 past (omega arith) up) (ap (λ sent. sent ++ locked_at suites) (sym (none_prepared past up))) (prepared_low past up)

    early_stage : (suites : Suites) (phase : Phase) (server : ℕ) (asked : Request) → IsEarly phase → request_in fixed task suites phase ≡ Some (server, asked) → stage asked ≡ 0
    early_stage suites (Gathering number) server asked early is = eqb-true (stage asked) 0 (asked_as (λ asked. stage asked == 0) true task number (suite_of suites number) server asked (λ mode. refl) refl is)
    early_stage suites (Fetching number) server asked early is = eqb-true (stage asked) 0 (fetched_as (λ asked. stage asked == 0) true task number (suite_of suites number) server asked refl is)
    early_stage suites (Widening [] granted) server asked early is = cc
    early_stage suites (Widening (number ∷ left) granted) server asked early is = eqb-true (stage asked) 0 (asked_as (λ asked. stage asked == 0) true task number (suite_of suites number) server asked (λ mode. refl) refl is)
    early_stage suites other server asked early is = absurd early

    early_heard : (past : List Exchange) (cache : Cache) (suites : Suites) (phase : Phase) (server : ℕ) (asked : Request) (heard : Response) → IsEarly phase → Are (tells past) suites → UpTo 0 past
        → request_in fixed task suites phase ≡ Some (server, asked)
        → LeftIs (push past server asked heard) (after_response fixed (record { task = task; suites = suites; phase = phase }) cache server asked heard).after
    early_heard past cache suites phase server asked heard is are up asks =
        let stage_is = early_stage suites phase server asked is asks in
        let more = up_push 0 past server asked heard up (subst (λ n. n ≤ 0) (sym stage_is) (omega arith)) in
        let px = push past server asked heard in
        goes_on task past server asked heard (LeftIs px) (early px more) (given_up px more) (prepares px more) fixed cache suites phase is are asks heard refl

    -- ---- later

    -- the same of what is asked
    abbrev Then : List Exchange → Cache → Suites → Phase → Response → ℕ × Request → Type 0
    Then past cache suites phase heard asked = LeftIs (push past asked.0 asked.1 heard) (after_response fixed (record { task = task; suites = suites; phase = phase }) cache asked.0 asked.1 heard).after

    prepare_heard : (past : List Exchange) (cache : Cache) (suites : Suites) (now : ℕ) (left : List ℕ) (outcome : Proposal) (heard : Response) → HeardOf past suites → InPhase past suites (Preparing (now ∷ left) outcome)
        → Then past cache suites (Preparing (now ∷ left) outcome) heard (now, request.Prepare task.t (parts_at suites (changes_of outcome) now))
    prepare_heard past cache suites now left outcome heard locks in' = of heard refl
      where
        asked : Request
        asked = request.Prepare task.t (parts_at suites (changes_of outcome) now)

        px : List Exchange
        px = push past now asked heard

        up : UpTo 1 px
        up = up_push 1 past now asked heard in'.0 (omega arith)

        gives_up : (cause : Cause) → LeftIs px (give_up task cache suites cause).after
        gives_up cause = ends px cache suites verdict.Aborted (Undecided cause) (locked_still past (record { server = now; request = asked; response = heard }) refl ∙ locked_is past suites locks) (up_more 1 2 px (omega arith) up)

        of : (told : Response) → heard ≡ told → LeftIs px (after_response fixed (record { task = task; suites = suites; phase = Preparing (now ∷ left) outcome }) cache now asked told).after
        of (Lacked lacked) so = gives_up (lack_cause now lacked)
        of (Replied said) so =
            elim (is_prepared said) as (λ b. is_prepared said ≡ b → LeftIs px (cond b (prepare task cache suites outcome left) (give_up task cache suites (Lost now))).after) [
              | true ↦ λ yes. prepares_on px cache suites outcome left up (sent_next is_prepare past now asked heard left (locked_at suites) refl in'.1) (prepared_push past now asked heard in'.2 (λ _. ap says_prepared so ∙ yes))
              | false ↦ λ no. gives_up (Lost now)
            ] refl

    decide_heard : (past : List Exchange) (cache : Cache) (suites : Suites) (outcome : Proposal) (heard : Response) → HeardOf past suites → InPhase past suites (Deciding outcome)
        → Then past cache suites (Deciding outcome) heard (home_of fixed.service task.t, request.Decide task.t (decision_of task outcome))
    decide_heard past cache suites outcome heard locks in' = of heard
      where
        asked : Request
        asked = request.Decide task.t (decision_of task outcome)

        home : ℕ
        home = home_of fixed.service task.t

        px : List Exchange
        px = push past home asked heard

        up : UpTo 2 px
        up = up_push 2 past home asked heard (up_more 1 2 past (omega arith) in'.0) (omega arith)

        all : locked px ≡ locked_at suites
        all = locked_still past (record { server = home; request = asked; response = heard }) refl ∙ locked_is past suites locks

        of : (told : Response) → LeftIs px (after_response fixed (record { task = task; suites = suites; phase = Deciding outcome }) cache home asked told).after
        of (Lacked lacked) = ends px cache suites verdict.Aborted (Undecided (lack_cause home lacked)) all up
        of (Replied said) = ends px cache suites (verdict_in said verdict.Aborted) (ending_by (verdict_in said verdict.Aborted) (cause_of_abort said)) all up

    finish_heard : (past : List Exchange) (cache : Cache) (suites : Suites) (now : ℕ) (left : List ℕ) (v : Verdict) (ending : Ending) (heard : Response) → HeardOf past suites → InPhase past suites (Finishing (now ∷ left) v ending)
        → Then past cache suites (Finishing (now ∷ left) v ending) heard (now, request.Finish task.t v)
    finish_heard past cache suites now left v ending heard locks in' = of heard
      where
        asked : Request
        asked = request.Finish task.t v

        px : List Exchange
        px = push past now asked heard

        told_on : LeftIs px (tell_end task cache suites v ending left).after
        told_on =
            ends_on px cache suites v ending left (locked_still past (record { server = now; request = asked; response = heard }) refl ∙ locked_is past suites locks)
            (up_push 3 past now asked heard in'.0 (omega arith)) (sent_next is_finish past now asked heard left (locked_at suites) refl in'.1)

        of : (told : Response) → LeftIs px (after_response fixed (record { task = task; suites = suites; phase = Finishing (now ∷ left) v ending }) cache now asked told).after
        of (Lacked lacked) = told_on
        of (Replied said) = told_on

    heard_on : (past : List Exchange) (cache : Cache) (suites : Suites) (phase : Phase) (server : ℕ) (asked : Request) (heard : Response) → (IsEarly phase → Are (tells past) suites) → HeardOf past suites → InPhase past suites phase
        → request_in fixed task suites phase ≡ Some (server, asked) → Then past cache suites phase heard (server, asked)
    heard_on past cache suites (Gathering number) server asked heard are locks in' is = early_heard past cache suites (Gathering number) server asked heard tt (are tt) in' is
    heard_on past cache suites (Fetching number) server asked heard are locks in' is = early_heard past cache suites (Fetching number) server asked heard tt (are tt) in' is
    heard_on past cache suites (Widening left granted) server asked heard are locks in' is = early_heard past cache suites (Widening left granted) server asked heard tt (are tt) in' is
    heard_on past cache suites (Preparing (now ∷ left) outcome) server asked heard are locks in' is =
        subst (Then past cache suites (Preparing (now ∷ left) outcome) heard) (same_Some (now, request.Prepare task.t (parts_at suites (changes_of outcome) now)) (server, asked) is)
        (prepare_heard past cache suites now left outcome heard locks in')
    heard_on past cache suites (Deciding outcome) server asked heard are locks in' is =
        subst (Then past cache suites (Deciding outcome) heard) (same_Some (home_of fixed.service task.t, request.Decide task.t (decision_of task outcome)) (server, asked) is) (decide_heard past cache suites outcome heard locks in')
    heard_on past cache suites (Finishing (now ∷ left) v ending) server asked heard are locks in' is =
        subst (Then past cache suites (Finishing (now ∷ left) v ending) heard) (same_Some (now, request.Finish task.t v) (server, asked) is) (finish_heard past cache suites now left v ending heard locks in')
    heard_on past cache suites other server asked heard are locks in' is = cc

  -- ---- after all events

  module _ (idle : is_idle agent.doing ≡ true) where
    abbrev at : List Event → Agent
    at events = after_all fixed (begin fixed agent job) events

    abbrev past_of : List Event → List Exchange
    past_of events = of_job fixed agent job events

    locks_heard : (events : List Event) (running : TransactionRun) → (at events).doing ≡ Some (Running running) → HeardOf (past_of events) running.suites
    locks_heard events running was = subst (Keeps (plus_all nothing_held (past_of events))) was (all_keep nothing_held fixed (begin fixed agent job) events (begin_keeps fixed agent job idle))

    are_of : (task : Task) (Old : Base) (Now Loose : ℕ → Rattle.suite_prefix.specs.declared.copies.Prefix.Prefix → Type 0) (past : List Exchange) (suites : Suites) (phase : Phase) → StandsOn fixed task Old Now Loose past suites phase
        → IsEarly phase → Are (tells past) suites
    are_of task Old Now Loose past suites (Preparing left outcome) stands is = absurd is
    are_of task Old Now Loose past suites (Deciding outcome) stands is = absurd is
    are_of task Old Now Loose past suites (Finishing servers v ending) stands is = absurd is
    are_of task Old Now Loose past suites other stands is = stands.0

    suites_are : (events : List Event) (running : TransactionRun) (asked : ℕ × Request) → (at events).doing ≡ Some (Running running) → request_of fixed running ≡ Some asked → IsEarly running.phase
        → Are (tells (past_of events)) running.suites
    suites_are events running asked was is =
        let runs = subst (DoingStands fixed agent job events) was (stands_after fixed agent job events idle) in
        are_of running.task (Base_of fixed agent job events events running.task.site) (Started fixed agent job events) (Begins fixed agent job events) (past_of events) running.suites running.phase (runs.stands_on asked is)

    stays : (events : List Event) (heard : Response) (doing : Doing) (server : ℕ) (asked : Request) → (at events).doing ≡ Some doing → next_in fixed (Some doing) ≡ Some (server, asked) → Orders (past_of events) (Some doing)
        → Orders (push (past_of events) server asked heard) (take_in fixed (at events) heard (Some doing) (Some (server, asked))).agent.doing
    stays events heard (RunningSweep sweeping) server asked was is orders = absurd orders
    stays events heard (Running running) server asked was is orders =
        heard_on running.task orders.0 (past_of events) (at events).cache running.suites running.phase server asked heard (suites_are events running (server, asked) was is) (locks_heard events running was) orders.1 is

    begins : Orders [] (begin fixed agent job).doing
    begins =
        elim (is_idle agent.doing && has_sense fixed job && nat_lt agent.count max_jobs) as (λ b. Orders [] (cond b (record (started fixed agent job) { count = agent.count + 1 }) agent).doing) [
          | true ↦ goes_execute (task_of agent caller site ops) [] (LeftIs []) (early (task_of agent caller site ops) refl [] (up_none 0)) (given_up (task_of agent caller site ops) refl [] (up_none 0))
              (prepares (task_of agent caller site ops) refl [] (up_none 0)) fixed (record { suites = []; cache = agent.cache }) are_nil
          | false ↦ of agent.doing idle
        ]
      where
        of : (doing : Option Doing) → is_idle doing ≡ true → Orders [] doing
        of None idle = refl
        of (Some doing) idle = cc

    orders : (events : List Event) → Orders (past_of events) (at events).doing
    orders events = always fixed agent job Orders stays begins events

    -- what is so of what a transaction asks
    asks_so : {P : Type 0} (events : List Event) (server : ℕ) (asked : Request) → next_of fixed (at events) ≡ Some (server, asked)
        → ((running : TransactionRun) → (at events).doing ≡ Some (Running running) → running.task ≡ task_of agent caller site ops → InPhase (past_of events) running.suites running.phase → request_of fixed running ≡ Some (server, asked)
        → P) → P
    asks_so {P = P} events server asked is so = of (at events).doing refl is (orders events)
      where
        of : (doing : Option Doing) → (at events).doing ≡ doing → next_in fixed doing ≡ Some (server, asked) → Orders (past_of events) doing → P
        of None was is orders = cc
        of (Some (RunningSweep sweeping)) was is orders = absurd orders
        of (Some (Running running)) was is orders = so running was orders.0 orders.1 is

  -- ---- stages

  rises : (past : List Exchange) (asked : Request) (n m : ℕ) (task : Task) → task ≡ task_of agent caller site ops → stage asked ≡ n → n ≤ 3 → m ≤ n → number_of asked ≡ task.t → UpTo m past → IsInOrder agent past asked
  rises past asked n m task same here most least number up = record {
    own = let below : n < 4 = omega (arith, most) in subst (λ n. n < 4) (sym here) below;
    number = number ∙ ap (λ (task : Task). task.t) same;
    none_later = λ one has. subst (λ n. stage one.request ≤ n) (sym here) (up_more m n past least up one has);
  }

  number_early : (task : Task) (suites : Suites) (phase : Phase) (server : ℕ) (asked : Request) → IsEarly phase → request_in fixed task suites phase ≡ Some (server, asked) → number_of asked ≡ task.t
  number_early task suites (Gathering number) server asked early is =
      eqb-true (number_of asked) task.t (asked_as (λ asked. number_of asked == task.t) true task number (suite_of suites number) server asked (λ mode. self task.t) (self task.t) is)
  number_early task suites (Fetching number) server asked early is = eqb-true (number_of asked) task.t (fetched_as (λ asked. number_of asked == task.t) true task number (suite_of suites number) server asked (self task.t) is)
  number_early task suites (Widening [] granted) server asked early is = cc
  number_early task suites (Widening (number ∷ left) granted) server asked early is =
      eqb-true (number_of asked) task.t (asked_as (λ asked. number_of asked == task.t) true task number (suite_of suites number) server asked (λ mode. self task.t) (self task.t) is)
  number_early task suites other server asked early is = absurd early

  in_order : (past : List Exchange) (task : Task) (suites : Suites) (phase : Phase) (server : ℕ) (asked : Request) → task ≡ task_of agent caller site ops → InPhase past suites phase
      → request_in fixed task suites phase ≡ Some (server, asked) → IsInOrder agent past asked
  in_order past task suites (Gathering number) server asked same in' is =
      rises past asked 0 0 task same (early_stage task same suites (Gathering number) server asked tt is) (omega arith) (omega arith) (number_early task suites (Gathering number) server asked tt is) in'
  in_order past task suites (Fetching number) server asked same in' is =
      rises past asked 0 0 task same (early_stage task same suites (Fetching number) server asked tt is) (omega arith) (omega arith) (number_early task suites (Fetching number) server asked tt is) in'
  in_order past task suites (Widening left granted) server asked same in' is =
      rises past asked 0 0 task same (early_stage task same suites (Widening left granted) server asked tt is) (omega arith) (omega arith) (number_early task suites (Widening left granted) server asked tt is) in'
  in_order past task suites (Preparing (now ∷ left) outcome) server asked same in' is =
      subst (IsInOrder agent past) (asks_same now server (request.Prepare task.t (parts_at suites (changes_of outcome) now)) asked is)
      (rises past (request.Prepare task.t (parts_at suites (changes_of outcome) now)) 1 1 task same refl (omega arith) (omega arith) refl in'.0)
  in_order past task suites (Deciding outcome) server asked same in' is =
      subst (IsInOrder agent past) (asks_same (home_of fixed.service task.t) server (request.Decide task.t (decision_of task outcome)) asked is)
      (rises past (request.Decide task.t (decision_of task outcome)) 2 1 task same refl (omega arith) (omega arith) refl in'.0)
  in_order past task suites (Finishing (now ∷ left) v ending) server asked same in' is =
      subst (IsInOrder agent past) (asks_same now server (request.Finish task.t v) asked is)
      (rises past (request.Finish task.t v) 3 3 task same refl (omega arith) (omega arith) refl in'.0)
  in_order past task suites other server asked same in' is = cc

  -- ---- a request of a kind

  -- an early one is of none
  not_early : {P : Type 0} (n : ℕ) (kind : Request → Bool) → ((asked : Request) → stage asked ≤ n → kind asked ≡ false) → (task : Task) (suites : Suites) (phase : Phase) (server : ℕ) (asked : Request) → task ≡ task_of agent caller site ops
      → IsEarly phase → request_in fixed task suites phase ≡ Some (server, asked) → kind asked ≡ true → P
  not_early n kind low task suites phase server asked same early is kind_is =
      let here : stage asked ≤ n = subst (λ m. m ≤ n) (sym (early_stage task same suites phase server asked early is)) (omega arith) in
      absurd (false≢true (sym (low asked here) ∙ kind_is))

  not_this : {P : Type 0} (kind : Request → Bool) (a b : ℕ) (asked other : Request) → kind asked ≡ false → ◌≡◌ {A = Option (ℕ × Request)} (Some (a, asked)) (Some (b, other)) → kind other ≡ true → P
  not_this kind a b asked other none is kind_is = absurd (false≢true (sym none ∙ ap kind (asks_same a b asked other is) ∙ kind_is))

  preparing : (past : List Exchange) (task : Task) (suites : Suites) (phase : Phase) (server : ℕ) (asked : Request) → task ≡ task_of agent caller site ops → HeardOf past suites → InPhase past suites phase
      → request_in fixed task suites phase ≡ Some (server, asked) → is_prepare asked ≡ true → IsPreparing past server
  preparing past task suites (Gathering number) server asked same locks in' is kind = not_early 0 is_prepare no_prepare task suites (Gathering number) server asked same tt is kind
  preparing past task suites (Fetching number) server asked same locks in' is kind = not_early 0 is_prepare no_prepare task suites (Fetching number) server asked same tt is kind
  preparing past task suites (Widening left granted) server asked same locks in' is kind = not_early 0 is_prepare no_prepare task suites (Widening left granted) server asked same tt is kind
  preparing past task suites (Preparing (now ∷ left) outcome) server asked same locks in' is kind =
      let here : now ≡ server = ap (λ (pair : ℕ × Request). pair.0) (same_Some (now, request.Prepare task.t (parts_at suites (changes_of outcome) now)) (server, asked) is) in
      record { left = left; servers = locked_is past suites locks ∙ in'.1 ∙ ap (λ now. sent_to is_prepare past ++ now ∷ left) here; prepared = in'.2 }
  preparing past task suites (Deciding outcome) server asked same locks in' is kind = not_this is_prepare (home_of fixed.service task.t) server (request.Decide task.t (decision_of task outcome)) asked refl is kind
  preparing past task suites (Finishing (now ∷ left) v ending) server asked same locks in' is kind = not_this is_prepare now server (request.Finish task.t v) asked refl is kind
  preparing past task suites other server asked same locks in' is kind = cc

  deciding : (past : List Exchange) (task : Task) (suites : Suites) (phase : Phase) (server : ℕ) (asked : Request) → task ≡ task_of agent caller site ops → HeardOf past suites → InPhase past suites phase
      → request_in fixed task suites phase ≡ Some (server, asked) → is_decide asked ≡ true → IsDeciding fixed past server (number_of asked)
  deciding past task suites (Gathering number) server asked same locks in' is kind = not_early 1 is_decide no_decide task suites (Gathering number) server asked same tt is kind
  deciding past task suites (Fetching number) server asked same locks in' is kind = not_early 1 is_decide no_decide task suites (Fetching number) server asked same tt is kind
  deciding past task suites (Widening left granted) server asked same locks in' is kind = not_early 1 is_decide no_decide task suites (Widening left granted) server asked same tt is kind
  deciding past task suites (Preparing (now ∷ left) outcome) server asked same locks in' is kind = not_this is_decide now server (request.Prepare task.t (parts_at suites (changes_of outcome) now)) asked refl is kind
  deciding past task suites (Deciding outcome) server asked same locks in' is kind =
      subst (λ (pair : ℕ × Request). IsDeciding fixed past pair.0 (number_of pair.1)) (same_Some (home_of fixed.service task.t, request.Decide task.t (decision_of task outcome)) (server, asked) is) (record {
        at = refl;
        servers = locked_is past suites locks ∙ in'.1;
        prepared = in'.2;
        once = sent_none is_decide past (λ one has. no_decide one.request (in'.0 one has));
      })
  deciding past task suites (Finishing (now ∷ left) v ending) server asked same locks in' is kind = not_this is_decide now server (request.Finish task.t v) asked refl is kind
  deciding past task suites other server asked same locks in' is kind = cc

  abbrev verdict_of : Request → Verdict
  verdict_of (request.Finish t v) = v
  verdict_of _ = verdict.Aborted

  finishing : (past : List Exchange) (task : Task) (suites : Suites) (phase : Phase) (server : ℕ) (asked : Request) → task ≡ task_of agent caller site ops → HeardOf past suites → InPhase past suites phase
      → ((servers : List ℕ) (v : Verdict) (ending : Ending) → phase ≡ Finishing servers v ending → v ≡ told_verdict verdict.Aborted past)
      → request_in fixed task suites phase ≡ Some (server, asked) → is_finish asked ≡ true → IsFinishing past server (verdict_of asked)
  finishing past task suites (Gathering number) server asked same locks in' told is kind = not_early 2 is_finish no_finish task suites (Gathering number) server asked same tt is kind
  finishing past task suites (Fetching number) server asked same locks in' told is kind = not_early 2 is_finish no_finish task suites (Fetching number) server asked same tt is kind
  finishing past task suites (Widening left granted) server asked same locks in' told is kind = not_early 2 is_finish no_finish task suites (Widening left granted) server asked same tt is kind
  finishing past task suites (Preparing (now ∷ left) outcome) server asked same locks in' told is kind = not_this is_finish now server (request.Prepare task.t (parts_at suites (changes_of outcome) now)) asked refl is kind
  finishing past task suites (Deciding outcome) server asked same locks in' told is kind = not_this is_finish (home_of fixed.service task.t) server (request.Decide task.t (decision_of task outcome)) asked refl is kind
  finishing past task suites (Finishing (now ∷ left) v ending) server asked same locks in' told is kind =
      subst (λ (pair : ℕ × Request). IsFinishing past pair.0 (verdict_of pair.1)) (same_Some (now, request.Finish task.t v) (server, asked) is) (record {
        left = left;
        servers = locked_is past suites locks ∙ in'.1;
        told = told (now ∷ left) v ending refl;
      })
  finishing past task suites other server asked same locks in' told is kind = cc

-- ---- the laws

pub stages_rise : StagesRise
stages_rise fixed agent caller site ops events server asked idle is =
    asks_so fixed agent caller site ops idle events server asked is
    (λ running was same in' asks. in_order fixed agent caller site ops (of_job fixed agent (Transaction caller site ops) events) running.task running.suites running.phase server asked same in' asks)

pub prepares_in_order : PreparesInOrder
prepares_in_order fixed agent caller site ops events server t parts idle is =
    asks_so fixed agent caller site ops idle events server (request.Prepare t parts) is
    (λ running was same in' asks. preparing fixed agent caller site ops (of_job fixed agent (Transaction caller site ops) events) running.task running.suites running.phase server (request.Prepare t parts) same
    (locks_heard fixed agent caller site ops idle events running was) in' asks refl)

pub decides_in_order : DecidesInOrder
decides_in_order fixed agent caller site ops events home t decision idle is =
    asks_so fixed agent caller site ops idle events home (request.Decide t decision) is
    (λ running was same in' asks. deciding fixed agent caller site ops (of_job fixed agent (Transaction caller site ops) events) running.task running.suites running.phase home (request.Decide t decision) same
    (locks_heard fixed agent caller site ops idle events running was) in' asks refl)

pub finishes_in_order : FinishesInOrder
finishes_in_order fixed agent caller site ops events server t v idle is =
    asks_so fixed agent caller site ops idle events server (request.Finish t v) is
    (λ running was same in' asks. finishing fixed agent caller site ops (of_job fixed agent (Transaction caller site ops) events) running.task running.suites running.phase server (request.Finish t v) same
    (locks_heard fixed agent caller site ops idle events running was) in'
    (λ servers v ending phase. finish_carries_the_verdict fixed agent (Transaction caller site ops) events running servers v ending idle was phase) asks refl)

pub all_finish : AllFinish
all_finish fixed agent caller site ops events idle over = of (after_all fixed (begin fixed agent (Transaction caller site ops)) events).doing over (orders fixed agent caller site ops idle events)
  where
    of : (doing : Option Doing) → is_idle doing ≡ true → Orders fixed agent caller site ops (of_job fixed agent (Transaction caller site ops) events) doing
        → sent_to is_finish (of_job fixed agent (Transaction caller site ops) events) ≡ locked (of_job fixed agent (Transaction caller site ops) events)
    of None over is = is
    of (Some doing) over is = cc
