-- A transaction that goes steadily ends as the votes say that are open: its own steps.
use Rattle.law_run_recovers.proofs.Vocabulary.{◌≡◌, ◌⊎◌, inl, inr, ℕ, Bool, true, false, List, [], ◌∷◌, ◌++◌, Option, Some, None, is_some, refl, sym, ap, subst, ◌∙◌, arith, ◌+◌, ◌-◌, Contains, slice_get, nat_cmp, false≢true, and_parts, eq-eqb}
use Rattle.law_run_recovers.proofs.Vocabulary.{none-some, same_Some, IsOrdered, Identity, Opening, Replica, LockMode, Op, Request, Reply, is_prepared, Verdict, reply_of, held, verdict_of, answer_of, served, State, Has, newest, Collector, Asked, Poll}
use Rattle.law_run_recovers.proofs.Vocabulary.{counted, votes_or, request_for, mode_asked, mode_of, Cache, Transaction, Replied, row_of, IsSoAt, table_of, Suites, suite_of, known_of, has_vote, parts_at, Task, Phase, Gathering, Fetching, Preparing}
use Rattle.law_run_recovers.proofs.Vocabulary.{Deciding, Finishing, TransactionRun, Running, After, GoesOn, Ends, home_of, asked_for, given_in, changes_of, decision_of, request_in, after_reply, Agent, Taken, fixed_of, is_idle, next_in, next_of, left}
use Rattle.law_run_recovers.proofs.Vocabulary.{end_of, with_step, take, begin, after_all, exchanges, is_decide, asks_same, Keeps, nothing_held, plus_all, begin_keeps, after-append, Event, Begin, Step, EndedJob, Served, Actor, World, server_at}
use Rattle.law_run_recovers.proofs.Vocabulary.{actor_at, one_more, outcome_of, step, run, decisions, ended, number_of, holds_of, agent_of, puts_in, is_resolve, never_resolves, is_up, shown_at, shown_in, asks_for, runs, world_after, Stamped, copy_of}
use Rattle.law_run_recovers.proofs.Vocabulary.{shows_same, stands_on_locks, same_mode}
use Rattle.rep_core.specs.Service.{after}
use Rattle.txn_core.specs.Transactions.{Step as CourseStep}
use Rattle.rep_core.specs.declared.request.Request.TheVariants as request
use Rattle.rep_core.specs.declared.reply.Reply.TheVariants as reply
use Rattle.file_exec.specs.Known as known
use Rattle.txn_core.specs.Doing as doing
use Rattle.txn_core.specs.Agents as agents
use Rattle.txn_core.proofs.Locks as keeping
use Rattle.law_run_recovers.proofs.Steady.{GoesSteadily}
use Rattle.law_run_recovers.proofs.Asked.{onto_left, next_vote}
use Rattle.law_run_recovers.proofs.Early.{early_open, early_asks, fetch_is, ending_in}
use Rattle.law_run_recovers.proofs.Heard.{LockRight, RightFor, MayExecute, AsksFor, asks_for as asked_by, reply_stands}
use Rattle.law_run_recovers.proofs.Keeps.{IsAtWork, last_of, run_at}
use Rattle.law_run_recovers.proofs.NearGround.{its, opens, first_asked, opens_first, Known, ground, number, sight}
use Rattle.law_run_recovers.proofs.Polled.{Answers, dver_at, dver_in}
use Rattle.law_run_recovers.proofs.Serves.{Told}
use Rattle.law_run_recovers.proofs.Stands.{asks_of, locks_on}
use Rattle.law_run_recovers.proofs.Still.{IsOpenPhase}
use Rattle.law_run_recovers.proofs.StepsServed.{OwnTook}
use Rattle.law_run_recovers.proofs.AmongAt.{HasWhereOpen, lock_right, fetch_right, prepare_right, decide_right, ShowsWhereLocked, on_locks}
use Rattle.law_run_recovers.proofs.AmongAsks.{gather_asks, widen_asks, set_there}
use Rattle.law_run_recovers.proofs.AmongBegin.{Good, stands_left, right_end, begun, idle_before}
use Rattle.law_run_recovers.proofs.AmongCourse.{Course, RunsIt, PhaseIn, StandsIn, Right, same_service, next_is, NewOpen, spared_on, locks_on as answered_on, NewShown, shown_on, open_works}
use Rattle.law_run_recovers.proofs.AmongKnows.{knows_begun}
use Rattle.law_run_recovers.proofs.Locked.{poll_leaves, poll_shows}

-- a request for a lock on a suite is of that suite
abbrev suite_in : Request → ℕ
suite_in (request.Poll u suite mode) = suite
suite_in other = 0

suite_same : (t z : ℕ) (question : Asked) (u suite : ℕ) (mode : LockMode) → request_for t z question ≡ request.Poll u suite mode → z ≡ suite
suite_same t z question u suite mode h6 = search arith

module _ (given : Opening) (events later : List Event) (agent t : ℕ) (caller : Identity) (site : ℕ) (ops : List Op) (actor : Actor) (goes : GoesSteadily given events later agent t caller site ops actor) where
  abbrev its_task : Task
  its_task = its given events later agent t caller site ops actor goes

  abbrev world_at : List Event → World
  world_at so_far = world_after given events agent caller site ops so_far

  -- ---- a step of its own

  module _ (so_far rest : List Event) (split : later ≡ so_far ++ Step agent ∷ rest) (c : Course given events later agent t caller site ops actor goes so_far)
      (r : RunsIt given events later agent t caller site ops actor goes so_far c)
      (took : OwnTook (fixed_of given) (world_after given events agent caller site ops so_far) agent c.here c.there (step (fixed_of given) (world_after given events agent caller site ops so_far) (Step agent))) where
    abbrev said : Reply
    said = reply_of took.st took.asked.1

    number_here : r.txn_run.task.t ≡ t
    number_here = ap (λ (task : Task). task.t) r.at.0 ∙ number given events later agent t caller site ops actor goes

    asks_so : (asked : Request) → took.asked.1 ≡ asked → next_of (fixed_of given) c.here.agent ≡ Some (took.asked.0, asked)
    asks_so asked is = took.next ∙ ap (λ asked. Some (took.asked.0, asked)) is

    pub request_is : request_in (fixed_of given) its_task r.txn_run.suites r.txn_run.phase ≡ Some (took.asked.0, took.asked.1)
    request_is = subst (λ task. request_in (fixed_of given) task r.txn_run.suites r.txn_run.phase ≡ Some (took.asked.0, took.asked.1)) r.at.0 (sym (ap (next_in (fixed_of given)) r.running) ∙ took.next)

    work_in : IsOpenPhase r.txn_run.phase → IsAtWork (world_after given events agent caller site ops so_far) agent t
    work_in = open_works given events later agent t caller site ops actor goes so_far c r

    -- where it stands on its locks the server gave it one
    near_locked : IsAtWork (world_after given events agent caller site ops so_far) agent t → stands_on_locks took.asked.1 ≡ true → goes.near took.asked.0 ≡ true
    near_locked work on =
        (and_parts (goes.near took.asked.0) (is_up (run given events) took.asked.0)
        (on_locks given events later agent t caller site ops actor goes so_far rest split work c.spared c.locks took.asked.0 took.st took.at c.here r.txn_run c.there r.running number_here took.asked.1 took.next on)).0

    -- ---- it is answered rightly

    lock_here : (z : ℕ) (collector : Collector) → IsAtWork (world_after given events agent caller site ops so_far) agent t → (asks : AsksFor its_task.t z collector took.asked.0 took.asked.1) → goes.near took.asked.0 ≡ true
        → Contains (asks_for given events t caller ops) (z, mode_asked asks.question) → LockRight (fixed_of given) (run given events) (sight given events later agent t caller site ops actor goes) its_task.t z took.asked.0 took.asked.1 said
    lock_here z collector work asks near has question asked =
        let is : took.asked.1 ≡ request_for t z question = asked ∙ ap (λ n. request_for n z question) (number given events later agent t caller site ops actor goes) in
        let modes : mode_asked asks.question ≡ mode_asked question = sym (same_mode its_task.t z asks.question) ∙ ap mode_of (sym asks.asked_is ∙ asked) ∙ same_mode its_task.t z question in
        subst (λ asked. Answers (fixed_of given) (run given events) (sight given events later agent t caller site ops actor goes) z question took.asked.0 (reply_of took.st asked)) (sym is)
        (lock_right given events later agent t caller site ops actor goes so_far rest split work c.spared c.locks took.asked.0 took.st took.at c.here r.txn_run c.there r.running number_here z question
        (asks_so (request_for t z question) is) near
        (subst (λ mode. Contains (asks_for given events t caller ops) (z, mode)) modes has))

    -- whom it asks before its end is fixed is near
    pub near_for : (now : Cache) (suites : Suites) (phase : Phase) → PhaseIn given events later agent t caller site ops actor goes suites now phase
        → (IsOpenPhase phase → IsAtWork (world_after given events agent caller site ops so_far) agent t)
        → request_in (fixed_of given) its_task suites phase ≡ Some (took.asked.0, took.asked.1) → IsOpenPhase phase → goes.near took.asked.0 ≡ true
    near_for now suites (Gathering z) at work asks' open' =
        let g = at.0 in
        let asks = asked_by its_task z g.suite.collector took.asked.0 took.asked.1 (sym (ap (asked_for its_task z) g.there) ∙ asks') in
        let vote = next_vote g.suite.collector took.asked.0 asks.question asks.is in
        g.found.reached.going.known.1 took.asked.0 (subst (λ (c : Collector). has_vote (counted c) took.asked.0 ≡ true) g.found.reached.is vote)
    near_for now suites (Fetching z) at work asks' open' = near_locked (work tt) (ap stands_on_locks (fetch_is its_task z (suite_of suites z) took.asked.0 took.asked.1 asks'))
    near_for now suites (doing.Widening [] granted) at work asks' open' = absurd at
    near_for now suites (doing.Widening (z ∷ left) granted) at work asks' open' =
        let asks = asked_by its_task z at.suite.collector took.asked.0 took.asked.1 (sym (ap (asked_for its_task z) at.there) ∙ asks') in
        let vote = next_vote at.suite.collector took.asked.0 asks.question asks.is in
        let count' : counted at.suite.collector ≡ at.votes = ap (λ o. votes_or o (newest at.suite.collector.start at.suite.collector.told)) at.widening_is ∙ at.votes_are in
        goes.are_near.set (z, at.votes) took.asked.0 (set_there given events later agent t caller site ops actor goes (z, at.votes) (subst (λ sets. Has sets (z, at.votes)) (sym at.sets.sets) (onto_left at.done _ (z, at.votes) (inl refl))))
        (subst (λ votes. has_vote votes took.asked.0 ≡ true) count' vote)
    near_for now suites (Preparing [] outcome) at work asks' open' = absurd (none-some (took.asked.0, took.asked.1) asks')
    near_for now suites (Preparing (server ∷ left) outcome) at work asks' open' = search (near_locked, asks_same, arith)
    near_for now suites (Deciding outcome) at work asks' open' =
        let home : took.asked.0 ≡ home_of (fixed_of given).service t =
        sym (ap (λ (asked : ℕ × Request). asked.0) (same_Some (home_of (fixed_of given).service its_task.t, request.Decide its_task.t (decision_of its_task outcome)) (took.asked.0, took.asked.1) asks'))
        ∙ ap (home_of (fixed_of given).service) (number given events later agent t caller site ops actor goes) in
        ap goes.near home ∙ goes.are_near.home
    near_for now suites (Finishing left v ended) at work asks' open' = absurd open'

    right_for : (now : Cache) (suites : Suites) (phase : Phase) → PhaseIn given events later agent t caller site ops actor goes suites now phase
        → (IsOpenPhase phase → IsAtWork (world_after given events agent caller site ops so_far) agent t)
        → request_in (fixed_of given) its_task suites phase ≡ Some (took.asked.0, took.asked.1)
        → RightFor (fixed_of given) (run given events) (sight given events later agent t caller site ops actor goes) its_task phase took.asked.0 took.asked.1 said
    right_for now suites (Gathering z) at work asks' =
        let g = at.0 in
        let asks = asked_by its_task z g.suite.collector took.asked.0 took.asked.1 (sym (ap (asked_for its_task z) g.there) ∙ asks') in
        lock_here z g.suite.collector (work tt) asks (near_for now suites (Gathering z) at work asks' tt) (gather_asks given events later agent t caller site ops actor goes took.asked.0 took.asked.1 now suites z at asks)
    right_for now suites (Fetching z) at work asks' =
        let is : took.asked.1 ≡ request.Fetch t z = fetch_is its_task z (suite_of suites z) took.asked.0 took.asked.1 asks' ∙ ap (λ n. request.Fetch n z) (number given events later agent t caller site ops actor goes) in
        ap (λ asked. is_some (given_in (reply_of took.st asked))) is
        ∙ fetch_right given events later agent t caller site ops actor goes so_far rest split (work tt) c.spared c.locks took.asked.0 took.st took.at c.here r.txn_run c.there r.running number_here z (asks_so (request.Fetch t z) is)
    right_for now suites (doing.Widening (z ∷ left) granted) at work asks' =
        let asks = asked_by its_task z at.suite.collector took.asked.0 took.asked.1 (sym (ap (asked_for its_task z) at.there) ∙ asks') in
        lock_here z at.suite.collector (work tt) asks (near_for now suites (doing.Widening (z ∷ left) granted) at work asks' tt)
        (widen_asks given events later agent t caller site ops actor goes took.asked.0 took.asked.1 now suites z left granted at asks)
    right_for now suites (Preparing [] outcome) at work asks' = absurd (none-some (took.asked.0, took.asked.1) asks')
    right_for now suites (Preparing (server ∷ left) outcome) at work asks' =
        let parts = parts_at suites (changes_of outcome) server in
        let is : took.asked.1 ≡ request.Prepare t parts = sym (asks_same server took.asked.0 (request.Prepare its_task.t parts) took.asked.1 asks')
        ∙ ap (λ n. request.Prepare n parts) (number given events later agent t caller site ops actor goes) in
        ap (λ asked. is_prepared (reply_of took.st asked)) is
        ∙ prepare_right given events later agent t caller site ops actor goes so_far rest split (work tt) c.spared c.locks took.asked.0 took.st took.at c.here r.txn_run c.there r.running number_here parts
        (asks_so (request.Prepare t parts) is)
    right_for now suites (Deciding outcome) at work asks' =
        let decision = decision_of its_task outcome in
        let is : took.asked.1 ≡ request.Decide t decision = sym (asks_same (home_of (fixed_of given).service its_task.t) took.asked.0 (request.Decide its_task.t decision) took.asked.1 asks')
        ∙ ap (λ n. request.Decide n decision) (number given events later agent t caller site ops actor goes) in
        let near = near_for now suites (Deciding outcome) at work asks' tt in
        let d = decide_right given events later agent t caller site ops actor goes so_far rest split (work tt) c.spared c.locks took.asked.0 took.st took.at c.here r.txn_run c.there r.running number_here decision
        (asks_so (request.Decide t decision) is) near in
        by (is_up (run given events) took.asked.0) refl (λ up. ap (reply_of took.st) is ∙ d.0 up) (λ down. ap (reply_of took.st) is ∙ d.1 down)
      where
        by : (b : Bool) → is_up (run given events) took.asked.0 ≡ b → (is_up (run given events) took.asked.0 ≡ true → said ≡ reply.Verdict (verdict_of (decision_of its_task outcome)))
            → (is_up (run given events) took.asked.0 ≡ false → said ≡ reply.Down)
            → ((is_up (run given events) took.asked.0 ≡ true) × (said ≡ reply.Verdict (verdict_of (decision_of its_task outcome)))) ⊎ ((is_up (run given events) took.asked.0 ≡ false) × (said ≡ reply.Down))
        by true is up down = inl (is, up is)
        by false is up down = inr (is, down is)
    right_for now suites other at work asks' = tt

    pub right_here : RightFor (fixed_of given) (run given events) (sight given events later agent t caller site ops actor goes) its_task r.txn_run.phase took.asked.0 took.asked.1 said
    right_here = right_for c.here.agent.cache r.txn_run.suites r.txn_run.phase r.at.1 work_in request_is

    -- ---- where it was told of a lock, it was answered

    -- it was open in the first mode, and this copy is what it showed
    abbrev ShowsAt : Replica → ℕ → Type 0
    ShowsAt copy suite = (opens given events later agent t caller site ops actor goes suite (first_asked given events later agent t caller site ops actor goes suite) took.asked.0 ≡ true)
        × (copy.prefix ≡ shown_at (fixed_of given) (run given events) suite took.asked.0) × (copy.dver ≡ dver_at (run given events) suite took.asked.0)

    -- what is open in the mode asked for is in the first one
    open_so : (z : ℕ) (asks : Request) (question : Asked) → Contains (asks_for given events t caller ops) (z, mode_asked question) → asks ≡ request_for its_task.t z question
        → (copy : Replica) → Answers (fixed_of given) (run given events) (sight given events later agent t caller site ops actor goes) z question took.asked.0 (held copy)
        → (u suite : ℕ) (mode : LockMode) → asks ≡ request.Poll u suite mode → ShowsAt copy suite
    open_so z asks question has is copy right u suite mode poll =
        subst (ShowsAt copy) (suite_same its_task.t z question u suite mode (sym is ∙ poll))
        (opens_first given events later agent t caller site ops actor goes z (mode_asked question) has took.asked.0 right.0, right.1, right.2)

    polls_answered : (phase : Phase) → PhaseIn given events later agent t caller site ops actor goes r.txn_run.suites c.here.agent.cache phase → request_in (fixed_of given) its_task r.txn_run.suites phase ≡ Some (took.asked.0, took.asked.1)
        → RightFor (fixed_of given) (run given events) (sight given events later agent t caller site ops actor goes) its_task phase took.asked.0 took.asked.1 said → (u suite : ℕ) (mode : LockMode)
        → took.asked.1 ≡ request.Poll u suite mode → (copy : Replica) → said ≡ held copy
        → ShowsAt copy suite
    polls_answered (Gathering z) at asks' right u suite mode poll copy is =
        let asks = asked_by its_task z at.0.suite.collector took.asked.0 took.asked.1 (sym (ap (asked_for its_task z) at.0.there) ∙ asks') in
        open_so z took.asked.1 asks.question (gather_asks given events later agent t caller site ops actor goes took.asked.0 took.asked.1 c.here.agent.cache r.txn_run.suites z at asks) asks.asked_is copy
        (subst (Answers (fixed_of given) (run given events) (sight given events later agent t caller site ops actor goes) z asks.question took.asked.0) is (right asks.question asks.asked_is)) u suite mode poll
    polls_answered (Fetching z) at asks' right u suite mode poll copy is = absurd (false≢true (ap (λ said. is_some (given_in said)) (sym is) ∙ right))
    polls_answered (doing.Widening [] granted) at asks' right u suite mode poll copy is = absurd at
    polls_answered (doing.Widening (z ∷ left) granted) at asks' right u suite mode poll copy is =
        let asks = asked_by its_task z at.suite.collector took.asked.0 took.asked.1 (sym (ap (asked_for its_task z) at.there) ∙ asks') in
        open_so z took.asked.1 asks.question (widen_asks given events later agent t caller site ops actor goes took.asked.0 took.asked.1 c.here.agent.cache r.txn_run.suites z left granted at asks) asks.asked_is copy
        (subst (Answers (fixed_of given) (run given events) (sight given events later agent t caller site ops actor goes) z asks.question took.asked.0) is (right asks.question asks.asked_is)) u suite mode poll
    polls_answered (Preparing left outcome) at asks' right u suite mode poll copy is = absurd (false≢true (ap is_prepared (sym is) ∙ right))
    polls_answered (Deciding outcome) at asks' right u suite mode poll copy is = search arith
    polls_answered (Finishing [] v ended) at asks' right u suite mode poll copy is = absurd (none-some (took.asked.0, took.asked.1) asks')
    polls_answered (Finishing (first ∷ left) v ended) at asks' right u suite mode poll copy is = search (asks_same, arith)

    -- it was told so
    module _ (server : ℕ) (told : Told (fixed_of given) (world_after given events agent caller site ops so_far) (Step agent) t server) where
      abbrev the : Served → Served
      the what = what

      same_what : the (record { server = took.asked.0; request = record { stamp = c.here.stamp; value = took.asked.1 }; reply = answer_of took.st (record { stamp = c.here.stamp; value = took.asked.1 }) }) ≡ told.what
      same_what = same_Some _ told.what (sym took.done ∙ told.served)

      asked_is : took.asked.1 ≡ request.Poll t told.told.suite told.told.mode
      asked_is = ap (λ (what : Served). what.request.value) same_what ∙ told.told.poll

      said_is : said ≡ held told.told.copy
      said_is = ap (λ (what : Served). what.reply.value) same_what ∙ told.told.reply

      at_it : took.asked.0 ≡ server
      at_it = ap (λ (what : Served). what.server) same_what ∙ told.at

      told_shows : ShowsAt told.told.copy told.told.suite
      told_shows = polls_answered r.txn_run.phase r.at.1 request_is right_here t told.told.suite told.told.mode asked_is told.told.copy said_is

    new_answered : NewOpen given events later agent t caller site ops actor goes so_far (Step agent)
    new_answered server z told of_it = search (at_it server told, told_shows server told, opens, first_asked, arith)

    new_shown : NewShown given events later agent t caller site ops actor goes so_far (Step agent)
    new_shown server z told of_it =
        subst (λ z. shows_same (server_at (world_after given events agent caller site ops (so_far ++ Step agent ∷ [])) server) (server_at (run given events) server) z) of_it
        (subst (λ server. shows_same (server_at (world_after given events agent caller site ops (so_far ++ Step agent ∷ [])) server) (server_at (run given events) server) told.told.suite) (at_it server told)
        (subst (λ found. shows_same found (server_at (run given events) took.asked.0) told.told.suite) (sym there) (of (server_at (run given events) took.asked.0) refl)))
      where
        stamped : Stamped Request
        stamped = record { stamp = c.here.stamp; value = took.asked.1 }

        there : server_at (world_after given events agent caller site ops (so_far ++ Step agent ∷ [])) took.asked.0 ≡ Some (served took.st (record { stamp = c.here.stamp; value = took.asked.1 }))
        there =
            ap (λ w. server_at w took.asked.0) (next_is given events later agent t caller site ops actor goes so_far (Step agent))
            ∙ ap (λ servers. slice_get servers took.asked.0) took.servers ∙ (puts_in (world_at so_far).servers took.asked.0 took.st (served took.st stamped) took.at).here

        polled : ((copy_of (served took.st (record { stamp = c.here.stamp; value = took.asked.1 })).store told.told.suite).prefix ≡ told.told.copy.prefix)
            × ((copy_of (served took.st (record { stamp = c.here.stamp; value = took.asked.1 })).store told.told.suite).dver ≡ told.told.copy.dver)
        polled = search (asked_is, poll_leaves, poll_shows, said_is, arith)

        of : (old : Option State) → server_at (run given events) took.asked.0 ≡ old
            → shows_same (Some (served took.st (record { stamp = c.here.stamp; value = took.asked.1 }))) (server_at (run given events) took.asked.0) told.told.suite
        of None is = subst (λ found. shows_same (Some (served took.st stamped)) found told.told.suite) (sym is) tt
        of (Some old) is =
            let shows = told_shows server told in
            subst (λ found. shows_same (Some (served took.st stamped)) found told.told.suite) (sym is)
            (polled.0 ∙ shows.1 ∙ ap (λ found. shown_in (fixed_of given) found told.told.suite) is, polled.1 ∙ shows.2 ∙ ap (λ found. dver_in found told.told.suite) is)

    locks_then : HasWhereOpen given events later agent t caller site ops actor goes (world_after given events agent caller site ops (so_far ++ Step agent ∷ []))
    locks_then = answered_on given events later agent t caller site ops actor goes so_far rest (Step agent) split c new_answered

    shown_then : ShowsWhereLocked given events later agent t caller site ops actor goes (world_after given events agent caller site ops (so_far ++ Step agent ∷ []))
    shown_then = shown_on given events later agent t caller site ops actor goes so_far rest (Step agent) split c new_shown

    -- ---- its course

    abbrev pub step_of : Task → CourseStep
    step_of task = after_reply (fixed_of given) task c.here.agent.cache r.txn_run.suites r.txn_run.phase took.asked.0 took.asked.1 said

    taken : take (fixed_of given) c.here.agent (Replied said) ≡ with_step c.here.agent (step_of r.txn_run.task)
    taken = search arith

    pub here_is : took.new.agent ≡ (with_step c.here.agent (step_of r.txn_run.task)).agent
    here_is = took.took ∙ ap (λ (taken : Taken). taken.agent) taken

    pub there_then : actor_at (world_after given events agent caller site ops (so_far ++ Step agent ∷ [])) agent ≡ Some took.new
    there_then = ap (λ w. actor_at w agent) (next_is given events later agent t caller site ops actor goes so_far (Step agent)) ∙ took.now

    count_then : took.new.agent.count ≡ actor.agent.count + 1
    count_then = search arith

    abbrev told_then : List agents.Event
    told_then = c.told ++ agents.Take (Replied (reply_of took.st took.asked.1)) ∷ []

    pub is_then : took.new.agent ≡ after_all (fixed_of given) (begin (fixed_of given) actor.agent (Transaction caller site ops)) (c.told ++ agents.Take (Replied (reply_of took.st took.asked.1)) ∷ [])
    is_then = took.took ∙ ap (λ a. (take (fixed_of given) a (Replied said)).agent) c.is ∙ sym (after-append (fixed_of given) (begin (fixed_of given) actor.agent (Transaction caller site ops)) c.told (agents.Take (Replied said)))

    module _ (may : MayExecute r.txn_run.phase) (more : TransactionRun) (is : (step_of its_task).after ≡ GoesOn more) where
      running_on : took.new.agent.doing ≡ Some (Running more)
      running_on = ap (λ (a : Agent). a.doing) here_is ∙ ap (left Running) (ap (λ task. (step_of task).after) r.at.0 ∙ is)

      number_on : more.task.t ≡ t
      number_on =
          let at = (holds_of given goes.can.accepted (events ++ Begin agent (Transaction caller site ops) ∷ (so_far ++ Step agent ∷ []))).agents.at agent took.new.agent
          (ap agent_of (ap (λ w. actor_at w agent) (sym (run_at given events later agent t caller site ops actor goes.can goes.there goes.begins (so_far ++ Step agent ∷ []))) ∙ there_then)) in
          let last = last_of (decisions given (events ++ Begin agent (Transaction caller site ops) ∷ (so_far ++ Step agent ∷ []))) agent took.new.agent.count more.task.t took.new.agent.doing at
          (ap (runs more.task.t) running_on ∙ eq-eqb more.task.t more.task.t refl) in
          let counts = count_then in
          let first = (begun given events later agent t caller site ops actor goes).0 in
          omega (arith, last, counts, first)

      ordered_on : IsOrdered nat_cmp more.suites
      ordered_on =
          (subst (Keeps (plus_all nothing_held (exchanges (fixed_of given) (begin (fixed_of given) actor.agent (Transaction caller site ops)) told_then))) (ap (λ (a : Agent). a.doing) (sym is_then) ∙ running_on)
          (keeping.all_keep nothing_held (fixed_of given) (begin (fixed_of given) actor.agent (Transaction caller site ops)) told_then
          (begin_keeps (fixed_of given) actor.agent (Transaction caller site ops) (idle_before given events later agent t caller site ops actor goes)))).0

      asks_early : is_decide took.asked.1 ≡ false
      asks_early = (early_asks (fixed_of given) its_task r.txn_run.suites r.txn_run.phase may took.asked.0 took.asked.1 request_is).1

      resolves_none : is_resolve took.asked.1 ≡ false
      resolves_none = never_resolves (fixed_of given) its_task r.txn_run.suites r.txn_run.phase took.asked.0 took.asked.1 request_is

      knows_on : (z : ℕ) → asks_of (locks_on (table_of given events) its_task) z ≡ true → IsSoAt (known.known_of (known_of more.suites) z) (row_of (table_of given events).rows z)
      knows_on =
          knows_begun given events later agent t caller site ops actor goes so_far rest split (work_in (early_open r.txn_run.phase may))
          (spared_on given events later agent t caller site ops actor goes so_far rest (Step agent) split c) c.here c.there took asks_early resolves_none
          locks_then shown_then took.new more there_then running_on number_on ordered_on

    good_step : Good given events later agent t caller site ops actor goes (step_of r.txn_run.task)
    good_step =
        subst (λ task. Good given events later agent t caller site ops actor goes (step_of task)) (sym r.at.0)
        (reply_stands (fixed_of given) (run given events) (sight given events later agent t caller site ops actor goes) (table_of given events) (its given events later agent t caller site ops actor goes) actor.agent.cache
        (Known given events later agent t caller site ops actor goes) (ground given events later agent t caller site ops actor goes)
        (same_service given events later agent t caller site ops actor goes) c.here.agent.cache r.txn_run.suites r.txn_run.phase r.at.1
        took.asked.0 took.asked.1 request_is said right_here knows_on)

    stands_then : StandsIn given events later agent t caller site ops actor goes took.new.agent.cache took.new.agent.doing
    stands_then = subst (λ (a : Agent). StandsIn given events later agent t caller site ops actor goes a.cache a.doing) (sym here_is) (stands_left given events later agent t caller site ops actor goes (step_of r.txn_run.task) good_step)

    -- how it ends, where it ends in this step
    pub ends_right : (one : EndedJob) → (step (fixed_of given) (world_after given events agent caller site ops so_far) (Step agent)).done.outcome ≡ Some one → Right given events later agent t caller site ops actor goes one.ending
    ends_right one is =
        right_end given events later agent t caller site ops actor goes (step_of r.txn_run.task) good_step one.ending
        (sym (ap (λ (taken : Taken). taken.ending) taken) ∙ ending_in agent c.here (take (fixed_of given) c.here.agent (Replied said)).ending one (sym took.ended ∙ is))

    -- it goes on, and was told this; or it is idle, and its job has ended
    abbrev pub OwnOn : Type 0
    OwnOn = ((on : Course given events later agent t caller site ops actor goes (so_far ++ Step agent ∷ [])) × (on.told ≡ c.told ++ agents.Take (Replied (reply_of took.st took.asked.1)) ∷ []))
        ⊎ ((one : EndedJob) × ((step (fixed_of given) (world_after given events agent caller site ops so_far) (Step agent)).done.outcome ≡ Some one) × (number_of one ≡ t) × (is_idle took.new.agent.doing ≡ true))

    pub own_on : OwnOn
    own_on = of (step_of r.txn_run.task).after refl
      where
        number_ended : (one : EndedJob) → one.agent ≡ agent → one.count ≡ c.here.agent.count - 1 → number_of one ≡ t
        number_ended one at count = search (begun, arith)

        of : (after : After TransactionRun) → (step_of r.txn_run.task).after ≡ after → OwnOn
        of (GoesOn more) is = inl (
          record {
            here = took.new;
            there = there_then;
            stands = stands_then;
            busy = ap (λ (a : Agent). is_idle a.doing) here_is ∙ ap (λ after. is_idle (left Running after)) is;
            told = told_then;
            is = is_then;
            count = count_then;
            locks = locks_then;
            shown = shown_then;
            spared = spared_on given events later agent t caller site ops actor goes so_far rest (Step agent) split c;
          },
          refl,
        )
        of (Ends ended) is =
            inr (
              the_one,
              took.ended ∙ ap (outcome_of agent c.here) (ap (λ (taken : Taken). taken.ending) taken ∙ ap end_of is),
              number_ended the_one refl refl,
              ap (λ (a : Agent). is_idle a.doing) here_is
                  ∙ ap (λ after. is_idle (left Running after)) is,
            )
          where
            the_one : EndedJob
            the_one = record { agent = agent; count = c.here.agent.count - 1; steps = one_more c.here.steps; ending = ended }
