-- Each server that holds a lock prepares before a decision is asked for.
use Rattle.txn_core.proofs.Vocabulary.{◌≡◌, ℕ, zero, suc, ◌+◌, Bool, true, false, cond, List, [], ◌∷◌, ◌++◌, Option, Some, None, refl, sym, ap, subst, ◌∙◌, arith, ◌==◌, ◌&&◌, ◌||◌, filter, nat_lt, ◌*◌, list_any, nat_cmp, is_at, eqb-true, false≢true}
use Rattle.txn_core.proofs.Vocabulary.{same_Some, nat_tests, Shared, Request, Verdict, Exchange, exchange_of, exchanges, of_job, is_prepare, says_prepared, was_prepared, AllPrepareFirst, Agent, Event, Take, Forget, next_in, next_of, take_in, take}
use Rattle.txn_core.proofs.Vocabulary.{begin, started, forget, is_idle, has_sense, max_jobs, after_all, is_prepared, holds, Cache, Suites, suite_of, holds_lock, told_at, told_in, Response, Cause, Ending, Job, Replied, Lacked, Lost, Undecided}
use Rattle.txn_core.proofs.Vocabulary.{Transaction, Sweep, Fixed, Task, Proposal, Phase, Gathering, Fetching, Widening, Preparing, Deciding, Finishing, TransactionRun, SweepRun, Doing, Running, RunningSweep, After, GoesOn, Ends, tell_end, give_up}
use Rattle.txn_core.proofs.Vocabulary.{prepare, locked_at, after_response, request_in, changes_of, lack_cause, parts_at, Decision, is_decide, numbers_from, has_locks, ◌≤◌, ◌<◌, max_servers}
use Rattle.rep_core.specs.declared.request.Request.TheVariants as request
use Rattle.txn_core.specs.Agents as agents
use Rattle.txn_core.specs.Sweeps as sweep
use Rattle.txn_core.proofs.Walk.{IsEarly, goes_response, goes_execute}
use Rattle.txn_core.proofs.Asks.{asks_same, asked_as, fetched_as}
use Rattle.txn_core.proofs.Locks.{or_false, or_or}
use Rattle.txn_core.proofs.Locks as locks
use Rattle.rep_core.specs.declared.reply.Verdict.TheVariants as verdict

-- ---- the servers that hold locks

abbrev among : List ℕ → ℕ → Bool
among servers server = list_any (λ one. one == server) servers

or_true : (a : Bool) {b : Bool} → b ≡ true → (a || b) ≡ true
or_true a h1 = search arith

among_numbers : (p : ℕ → Bool) (count start server : ℕ) → start ≤ server → server < start + count → p server ≡ true → among (filter p (numbers_from start count)) server ≡ true
among_numbers p zero start server low high is = absurd (omega (arith, low, high))
among_numbers p (suc count) start server low high is = search (eqb-true, nat_tests, or_true, among_numbers p count (start + 1) server, arith)

among_locked : (suites : Suites) (server : ℕ) → nat_lt server max_servers ≡ true → has_locks suites server ≡ true → among (locked_at suites) server ≡ true
among_locked suites server few is = among_numbers (has_locks suites) max_servers 0 server (omega arith) (grind (arith, nat_tests)) is

-- ---- what a phase has prepared

abbrev Ready : (ℕ → Bool) → Suites → List ℕ → Type 0
Ready done suites left = (server : ℕ) → nat_lt server max_servers ≡ true → has_locks suites server ≡ true → (among left server || done server) ≡ true

abbrev PhaseReady : (ℕ → Bool) → Suites → Phase → Type 0
PhaseReady done suites (Preparing left outcome) = Ready done suites left
PhaseReady done suites (Deciding outcome) = Ready done suites []
PhaseReady done suites _ = Unit {0}

abbrev LeftReady : (ℕ → Bool) → After TransactionRun → Type 0
LeftReady done (GoesOn txn_run) = PhaseReady done txn_run.suites txn_run.phase
LeftReady done (Ends ending) = Unit {0}

ready_end : (done : ℕ → Bool) (task : Task) (cache : Cache) (suites : Suites) (v : Verdict) (ending : Ending) (servers : List ℕ) → LeftReady done (tell_end task cache suites v ending servers).after
ready_end done task cache suites v ending servers = search arith

ready_give_up : (done : ℕ → Bool) (task : Task) (cache : Cache) (suites : Suites) (cause : Cause) → LeftReady done (give_up task cache suites cause).after
ready_give_up done task cache suites cause = ready_end done task cache suites verdict.Aborted (Undecided cause) (locked_at suites)

ready_prepare : (done : ℕ → Bool) (task : Task) (cache : Cache) (suites : Suites) (outcome : Proposal) (left : List ℕ) → Ready done suites left → LeftReady done (prepare task cache suites outcome left).after
ready_prepare done task cache suites outcome left h6 = search arith

ready_all : (done : ℕ → Bool) (task : Task) (cache : Cache) (suites : Suites) (outcome : Proposal) → LeftReady done (prepare task cache suites outcome (locked_at suites)).after
ready_all done task cache suites outcome = ready_prepare done task cache suites outcome (locked_at suites) (λ server few has. ap (λ b. b || done server) (among_locked suites server few has))

ready_early : (done : ℕ → Bool) (task : Task) (suites : Suites) (phase : Phase) → IsEarly phase → LeftReady done (GoesOn (record { task = task; suites = suites; phase = phase }))
ready_early done task suites phase h4 = search arith

-- ---- one response

abbrev adds : ℕ → Request → Response → ℕ → Bool
adds server asked response who = (server == who) && is_prepare asked && says_prepared response

abbrev plus : (ℕ → Bool) → ℕ → Request → Response → ℕ → Bool
plus done server asked response who = done who || adds server asked response who

early_ready : (done : ℕ → Bool) (fixed : Fixed) (task : Task) (cache : Cache) (suites : Suites) (phase : Phase) (server : ℕ) (asked : Request) (response : Response) → IsEarly phase
    → LeftReady done (after_response fixed (record { task = task; suites = suites; phase = phase }) cache server asked response).after
early_ready done fixed task cache suites phase server asked response is = goes_response task (LeftReady done) (ready_early done task) (ready_give_up done task) (ready_all done task) fixed cache suites phase server asked response is

ready_response : (done : ℕ → Bool) (fixed : Fixed) (task : Task) (cache : Cache) (suites : Suites) (phase : Phase) (server : ℕ) (asked : Request) (response : Response) → PhaseReady done suites phase
    → request_in fixed task suites phase ≡ Some (server, asked) → LeftReady (plus done server asked response) (after_response fixed (record { task = task; suites = suites; phase = phase }) cache server asked response).after
ready_response done fixed task cache suites (Gathering number) server asked response ready is = early_ready _ fixed task cache suites (Gathering number) server asked response tt
ready_response done fixed task cache suites (Fetching number) server asked response ready is = early_ready _ fixed task cache suites (Fetching number) server asked response tt
ready_response done fixed task cache suites (Widening left granted) server asked response ready is = early_ready _ fixed task cache suites (Widening left granted) server asked response tt
ready_response done fixed task cache suites (Finishing [] v ending) server asked (Lacked lacked) ready is = tt
ready_response done fixed task cache suites (Finishing (now ∷ left) v ending) server asked (Lacked lacked) ready is = ready_end _ task cache suites v ending left
ready_response done fixed task cache suites _ server asked (Lacked lacked) ready is = ready_give_up _ task cache suites (lack_cause server lacked)
ready_response done fixed task cache suites (Preparing [] outcome) server asked (Replied said) ready is = cc
ready_response done fixed task cache suites (Preparing (now ∷ left) outcome) server asked (Replied said) ready is =
    elim (is_prepared said) as (λ b. is_prepared said ≡ b → LeftReady (plus done server asked (Replied said)) (cond b (prepare task cache suites outcome left) (give_up task cache suites (Lost server))).after) [
      | true ↦ λ prepared'. search (ready_prepare, joined, what, arith)
      | false ↦ λ _. ready_give_up (plus done server asked (Replied said)) task cache suites (Lost server)
    ] refl
  where
    at : now ≡ server
    at = ap (λ (pair : ℕ × Request). pair.0) (same_Some (now, request.Prepare task.t (parts_at suites (changes_of outcome) now)) (server, asked) is)

    what : request.Prepare task.t (parts_at suites (changes_of outcome) now) ≡ asked
    what = asks_same now server (request.Prepare task.t (parts_at suites (changes_of outcome) now)) asked is

    joined : (a b c d : Bool) → ((a || b) || c) ≡ true → (a ≡ true → d ≡ true) → (b || (c || d)) ≡ true
    joined a b c d h4 h5 = search arith
ready_response done fixed task cache suites (Deciding outcome) server asked (Replied said) ready is = search (ready_end, arith)
ready_response done fixed task cache suites (Finishing [] v ending) server asked (Replied said) ready is = cc
ready_response done fixed task cache suites (Finishing (now ∷ left) v ending) server asked (Replied said) ready is = ready_end _ task cache suites v ending left

-- ---- all responses

abbrev DoingReady : (ℕ → Bool) → Option Doing → Type 0
DoingReady done (Some (Running txn_run)) = PhaseReady done txn_run.suites txn_run.phase
DoingReady done (Some (RunningSweep sweep_run)) = Unit {0}
DoingReady done None = Unit {0}

left_ready : (done : ℕ → Bool) (after : After TransactionRun) → LeftReady done after → DoingReady done (agents.left Running after)
left_ready done after h2 = search arith

round_ready : (done : ℕ → Bool) (after : After SweepRun) → DoingReady done (agents.left RunningSweep after)
round_ready done after = search arith

abbrev plus_all : (ℕ → Bool) → List Exchange → ℕ → Bool
plus_all done past who = done who || was_prepared past who

same_ready : (done other : ℕ → Bool) (doing : Option Doing) → ((who : ℕ) → done who ≡ other who) → DoingReady done doing → DoingReady other doing
same_ready done other doing h3 h4 = search arith

take_ready : (done : ℕ → Bool) (fixed : Fixed) (agent : Agent) (response : Response) (doing : Option Doing) (asked : Option (ℕ × Request)) → agent.doing ≡ doing → next_in fixed doing ≡ asked → DoingReady done doing
    → DoingReady (plus_all done (exchange_of asked response)) (take_in fixed agent response doing asked).agent.doing
take_ready done fixed agent response (Some (Running running)) (Some asked) was is ready =
    same_ready (plus done asked.0 asked.1 response) (plus_all done (exchange_of (Some asked) response)) _ (λ who. ap (λ b. done who || b) (sym (or_false (adds asked.0 asked.1 response who))))
    (left_ready (plus done asked.0 asked.1 response) _ (ready_response done fixed running.task agent.cache running.suites running.phase asked.0 asked.1 response ready is))
take_ready done fixed agent response (Some (Running running)) None was is ready = subst (DoingReady (plus_all done [])) (sym was) (same_ready done (plus_all done []) (Some (Running running)) (λ who. sym (or_false (done who))) ready)
take_ready done fixed agent response (Some (RunningSweep sweep_run)) (Some asked) was is ready = round_ready _ (sweep.after_response fixed.service sweep_run asked.0 response)
take_ready done fixed agent response (Some (RunningSweep sweep_run)) None was is ready = cc
take_ready done fixed agent response None (Some asked) was is ready = cc
take_ready done fixed agent response None None was is ready = subst (DoingReady (plus_all done [])) (sym was) tt

prepared-append : (past later : List Exchange) (who : ℕ) → was_prepared (past ++ later) who ≡ (was_prepared past who || was_prepared later who)
prepared-append [] later who = refl
prepared-append (one ∷ past) later who = search (prepared-append past later who, arith)

all_ready : (done : ℕ → Bool) (fixed : Fixed) (agent : Agent) (events : List Event) → DoingReady done agent.doing → DoingReady (plus_all done (exchanges fixed agent events)) (after_all fixed agent events).doing
all_ready done fixed agent [] ready = same_ready done (plus_all done []) agent.doing (λ who. sym (or_false (done who))) ready
all_ready done fixed agent (Forget site ∷ events) ready = all_ready done fixed (forget agent site) events ready
all_ready done fixed agent (Take response ∷ events) ready =
    let one = exchange_of (next_of fixed agent) response in
    let rest = exchanges fixed (take fixed agent response).agent events in
    same_ready (plus_all (plus_all done one) rest) (plus_all done (one ++ rest)) (after_all fixed agent (Take response ∷ events)).doing
    (λ who. or_or (done who) (was_prepared one who) (was_prepared rest who) ∙ ap (λ b. done who || b) (sym (prepared-append one rest who)))
    (all_ready (plus_all done one) fixed (take fixed agent response).agent events (take_ready done fixed agent response agent.doing (next_of fixed agent) refl refl ready))

abbrev nobody : ℕ → Bool
nobody who = false

begin_ready : (fixed : Fixed) (agent : Agent) (job : Job) → is_idle agent.doing ≡ true → DoingReady nobody (begin fixed agent job).doing
begin_ready fixed agent job idle =
    elim (is_idle agent.doing && has_sense fixed job && nat_lt agent.count max_jobs) as (λ b. DoingReady nobody (cond b (record (started fixed agent job) { count = agent.count + 1 }) agent).doing) [
      | true ↦ of job
      | false ↦ at agent.doing idle
    ]
  where
    at : (doing : Option Doing) → is_idle doing ≡ true → DoingReady nobody doing
    at doing h1 = search arith

    of : (job : Job) → DoingReady nobody (started fixed agent job).doing
    of (Transaction caller site ops) = let task : Task = record { t = 64 * agent.count + agent.index; caller = caller; site = site; ops = ops } in
        left_ready nobody _ (goes_execute task (LeftReady nobody) (ready_early nobody task) (ready_give_up nobody task) (ready_all nobody task) fixed
        (record { suites = []; cache = agent.cache }))
    of (Sweep server) = tt

-- ---- a Decide

-- a lock on a suite is a lock
pub has_one : (suites : Suites) (number server : ℕ) → holds Shared (told_at suites number) server ≡ true → has_locks suites server ≡ true
has_one [] number server is = cc
has_one (e ∷ es) number server is =
    elim (is_at (nat_cmp number) e.0) as (λ b. holds Shared (told_in (cond b (Some e.1) (suite_of es number))) server ≡ true → (holds_lock e.1 server || has_locks es server) ≡ true) [
      | true ↦ λ is. ap (λ b. b || has_locks es server) is
      | false ↦ λ is. or_true (holds_lock e.1 server) (has_one es number server is)
    ] is

no_decide : {P : Type 0} (a b t : ℕ) (asked : Request) (decision : Decision) → is_decide asked ≡ false → ◌≡◌ {A = Option (ℕ × Request)} (Some (a, asked)) (Some (b, request.Decide t decision)) → P
no_decide a b t asked decision other is = absurd (false≢true (sym other ∙ ap is_decide (asks_same a b asked (request.Decide t decision) is)))

decide_ready : (held : ℕ → ℕ → Bool) (done : ℕ → Bool) (fixed : Fixed) (doing : Option Doing) (home t number server : ℕ) (decision : Decision) → locks.Keeps held doing
    → DoingReady done doing → next_in fixed doing ≡ Some (home, request.Decide t decision)
    → nat_lt server max_servers ≡ true → held number server ≡ true → done server ≡ true
decide_ready held done fixed doing home t number server decision h9 h10 h11 h12 h13 = search (no_decide, false≢true, asked_as, fetched_as, has_one, arith)

pub all_prepare_first : AllPrepareFirst
all_prepare_first fixed agent job events home t server suite decision idle is few has =
    decide_ready (locks.plus_all locks.nothing_held (of_job fixed agent job events)) (plus_all nobody (of_job fixed agent job events)) fixed (after_all fixed (begin fixed agent job) events).doing home t suite server decision
    (locks.all_keep locks.nothing_held fixed (begin fixed agent job) events (locks.begin_keeps fixed agent job idle))
    (all_ready nobody fixed (begin fixed agent job) events (begin_ready fixed agent job idle)) is few has
