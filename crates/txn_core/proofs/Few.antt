-- A transaction is prepared, decided and told in few steps.
use Rattle.txn_core.proofs.Vocabulary.{◌≡◌, ℕ, zero, suc, ◌+◌, ◌≤◌, ◌<◌, Bool, true, false, cond, List, [], ◌∷◌, ◌++◌, Option, Some, None, refl, ap, arith, ◌&&◌, ◌==◌, ◌*◌, filter, nat_lt, eqb-true, nat_tests, same_Some, Identity, max_servers, Op}
use Rattle.txn_core.proofs.Vocabulary.{Request, Verdict, Cache, Suites, has_locks, Response, Cause, Ending, Undecided, Transaction, Fixed, Task, Proposal, Phase, Preparing, Deciding, Finishing, TransactionRun, Doing, Running, RunningSweep, After}
use Rattle.txn_core.proofs.Vocabulary.{GoesOn, numbers_from, tell_end, give_up, prepare, locked_at, after_response, request_in, Agent, Event, Take, Forget, next_in, next_of, left, take_in, take, begin, started, forget, is_idle, has_sense, max_jobs}
use Rattle.txn_core.proofs.Vocabulary.{Exchange, exchange_of, exchanges, of_job, count_of}
use Rattle.rep_core.specs.declared.request.Request.TheVariants as request
use Rattle.rep_core.specs.declared.reply.Verdict.TheVariants as verdict
use Rattle.txn_core.proofs.Asks.{asks_same, asked_as, fetched_as}
use Rattle.txn_core.proofs.Walk.{IsEarly, goes_response, goes_execute}

-- a request to prepare or to finish
abbrev pub tells : Request → Bool
tells (request.Prepare t parts) = true
tells (request.Finish t v) = true
tells _ = false

-- how often a server was asked that
abbrev pub told_to : ℕ → List Exchange → ℕ
told_to who past = count_of (λ one. (one.server == who) && tells one.request) past

-- how often a server stands in a list
abbrev times_in : ℕ → List ℕ → ℕ
times_in who [] = 0
times_in who (server ∷ servers) = cond (server == who) 1 0 + times_in who servers

-- how often it may still be asked
abbrev may_in : ℕ → Phase → ℕ
may_in who (Preparing servers outcome) = times_in who servers + 1
may_in who (Deciding outcome) = 1
may_in who (Finishing servers v ending) = times_in who servers
may_in who _ = 2

abbrev may : ℕ → Option Doing → ℕ
may who (Some (Running txn_run)) = may_in who txn_run.phase
may who (Some (RunningSweep sweep_run)) = 0
may who None = 0

abbrev IsFew : ℕ → After TransactionRun → Type 0
IsFew who after = may who (left Running after) ≤ 2

-- a list that rises has each server once
above : (who : ℕ) (p : ℕ → Bool) (start count : ℕ) → who < start → times_in who (filter p (numbers_from start count)) ≡ 0
above who p start zero less = omega arith
above who p start (suc count) less = search (nat_tests, above who p (start + 1) count, arith)

once : (who : ℕ) (p : ℕ → Bool) (start count : ℕ) → times_in who (filter p (numbers_from start count)) ≤ 1
once who p start zero = omega arith
once who p start (suc count) = search (eqb-true, above, once who p (start + 1) count, arith)

few_locked : (who : ℕ) (suites : Suites) → times_in who (locked_at suites) ≤ 1
few_locked who suites = once who (has_locks suites) 0 max_servers

few_end : (who : ℕ) (task : Task) (cache : Cache) (suites : Suites) (v : Verdict) (ending : Ending) (servers : List ℕ) → may who (left Running (tell_end task cache suites v ending servers).after) ≡ times_in who servers
few_end who task cache suites v ending servers = search arith

few_finish : (who : ℕ) (task : Task) (cache : Cache) (suites : Suites) (v : Verdict) (ending : Ending) → may who (left Running (tell_end task cache suites v ending (locked_at suites)).after) ≤ 1
few_finish who task cache suites v ending = let same = few_end who task cache suites v ending (locked_at suites) in let few = few_locked who suites in omega (arith, same, few)

few_prepare : (who : ℕ) (task : Task) (cache : Cache) (suites : Suites) (outcome : Proposal) (servers : List ℕ) → may who (left Running (prepare task cache suites outcome servers).after) ≤ times_in who servers + 1
few_prepare who task cache suites outcome servers = search arith

few_early : (who : ℕ) (task : Task) (suites : Suites) (phase : Phase) → IsEarly phase → IsFew who (GoesOn (record { task = task; suites = suites; phase = phase }))
few_early who task suites phase h4 = search arith

few_given_up : (who : ℕ) (task : Task) (cache : Cache) (suites : Suites) (cause : Cause) → IsFew who (give_up task cache suites cause).after
few_given_up who task cache suites cause = let few = few_finish who task cache suites verdict.Aborted (Undecided cause) in omega (arith, few)

few_prepares : (who : ℕ) (task : Task) (cache : Cache) (suites : Suites) (outcome : Proposal) → IsFew who (prepare task cache suites outcome (locked_at suites)).after
few_prepares who task cache suites outcome = let few = few_prepare who task cache suites outcome (locked_at suites) in let most = few_locked who suites in omega (arith, few, most)

-- ---- one response

abbrev then_may : ℕ → Fixed → Task → Cache → Suites → Phase → ℕ → Request → Response → ℕ
then_may who fixed task cache suites phase server asked response = may who (left Running (after_response fixed (record { task = task; suites = suites; phase = phase }) cache server asked response).after)

abbrev one_if : Bool → ℕ
one_if b = cond b 1 0

abbrev now_told : ℕ → ℕ → Request → ℕ
now_told who server asked = one_if ((server == who) && tells asked)

none_now : (who server : ℕ) (asked : Request) → tells asked ≡ false → now_told who server asked ≡ 0
none_now who server asked none = search arith

here_now : (who server now : ℕ) (asked : Request) → now ≡ server → now_told who server asked ≤ cond (now == who) 1 0
here_now who server now asked same = search arith

at_server : (now server : ℕ) (question asked : Request) → ◌≡◌ {A = Option (ℕ × Request)} (Some (now, question)) (Some (server, asked)) → now ≡ server
at_server now server question asked is = ap (λ (pair : ℕ × Request). pair.0) (same_Some (now, question) (server, asked) is)

calm : (who : ℕ) (fixed : Fixed) (task : Task) (cache : Cache) (suites : Suites) (phase : Phase) (server : ℕ) (asked : Request) (response : Response) → IsEarly phase
    → tells asked ≡ false → now_told who server asked + then_may who fixed task cache suites phase server asked response ≤ 2
calm who fixed task cache suites phase server asked response is other =
    let none = none_now who server asked other in
    let few = goes_response task (IsFew who) (few_early who task) (few_given_up who task) (few_prepares who task) fixed cache suites phase server asked response is in omega (arith, none, few)

few_response : (who : ℕ) (fixed : Fixed) (task : Task) (cache : Cache) (suites : Suites) (phase : Phase) (server : ℕ) (asked : Request) (response : Response) → request_in fixed task suites phase ≡ Some (server, asked)
    → now_told who server asked + then_may who fixed task cache suites phase server asked response ≤ may_in who phase
few_response who fixed task cache suites phase server asked response h9 = search (calm, asked_as, fetched_as, here_now, at_server, few_finish, few_prepare, none_now, asks_same, few_end, arith)

-- ---- all responses

abbrev pub IsNoRound : Option Doing → Type 0
IsNoRound (Some (Running txn_run)) = Unit {0}
IsNoRound (Some (RunningSweep sweep_run)) = ⊥
IsNoRound None = Unit {0}

no_round : (after : After TransactionRun) → IsNoRound (left Running after)
no_round after = search arith

pub take_no_round : (fixed : Fixed) (agent : Agent) (response : Response) (doing : Option Doing) (asked : Option (ℕ × Request)) → agent.doing ≡ doing → IsNoRound doing → IsNoRound (take_in fixed agent response doing asked).agent.doing
take_no_round fixed agent response doing asked h5 h6 = search arith

take_few : (who : ℕ) (fixed : Fixed) (agent : Agent) (response : Response) (doing : Option Doing) (asked : Option (ℕ × Request)) → agent.doing ≡ doing → next_in fixed doing ≡ asked → IsNoRound doing
    → told_to who (exchange_of asked response) + may who (take_in fixed agent response doing asked).agent.doing ≤ may who doing
take_few who fixed agent response (Some (Running running)) (Some asked) was is none = let one = few_response who fixed running.task agent.cache running.suites running.phase asked.0 asked.1 response is in omega (arith, one)
take_few who fixed agent response (Some (Running running)) None was is none = let same = ap (may who) was in omega (arith, same)
take_few who fixed agent response (Some (RunningSweep sweep_run)) asked was is none = absurd none
take_few who fixed agent response None (Some asked) was is none = cc
take_few who fixed agent response None None was is none = let same = ap (may who) was in omega (arith, same)

told-append : (who : ℕ) (past later : List Exchange) → told_to who (past ++ later) ≡ told_to who past + told_to who later
told-append who [] later = omega arith
told-append who (one ∷ past) later = let rest = told-append who past later in omega (arith, rest)

all_few : (who : ℕ) (fixed : Fixed) (agent : Agent) (events : List Event) → IsNoRound agent.doing → told_to who (exchanges fixed agent events) ≤ may who agent.doing
all_few who fixed agent [] none = omega arith
all_few who fixed agent (Forget site ∷ events) none = all_few who fixed (forget agent site) events none
all_few who fixed agent (Take response ∷ events) none =
    let rest = all_few who fixed (take fixed agent response).agent events (take_no_round fixed agent response agent.doing (next_of fixed agent) refl none) in
    let one = take_few who fixed agent response agent.doing (next_of fixed agent) refl refl none in
    let sum = told-append who (exchange_of (next_of fixed agent) response) (exchanges fixed (take fixed agent response).agent events) in
    omega (arith, rest, one, sum)

begin_few : (who : ℕ) (fixed : Fixed) (agent : Agent) (caller : Identity) (site : ℕ) (ops : List Op) → is_idle agent.doing ≡ true
    → IsNoRound (begin fixed agent (Transaction caller site ops)).doing × (may who (begin fixed agent (Transaction caller site ops)).doing ≤ 2)
begin_few who fixed agent caller site ops idle =
    elim (is_idle agent.doing && has_sense fixed (Transaction caller site ops) && nat_lt agent.count max_jobs) as (λ b.
    IsNoRound (cond b (record (started fixed agent (Transaction caller site ops)) { count = agent.count + 1 }) agent).doing
    × (may who (cond b (record (started fixed agent (Transaction caller site ops)) { count = agent.count + 1 }) agent).doing ≤ 2)) [
      | true ↦ let task : Task = record { t = 64 * agent.count + agent.index; caller = caller; site = site; ops = ops } in
          (no_round _, goes_execute task (IsFew who) (few_early who task) (few_given_up who task) (few_prepares who task) fixed (record { suites = []; cache = agent.cache }))
      | false ↦ at agent.doing idle
    ]
  where
    at : (doing : Option Doing) → is_idle doing ≡ true → IsNoRound doing × (may who doing ≤ 2)
    at doing h1 = search arith

pub began_no_round : (fixed : Fixed) (agent : Agent) (caller : Identity) (site : ℕ) (ops : List Op) → is_idle agent.doing ≡ true → IsNoRound (begin fixed agent (Transaction caller site ops)).doing
began_no_round fixed agent caller site ops idle = (begin_few 0 fixed agent caller site ops idle).0

-- each server is asked to prepare and to finish once at most
pub tellings_are_few : (fixed : Fixed) (agent : Agent) (caller : Identity) (site : ℕ) (ops : List Op) (events : List Event) (who : ℕ) → is_idle agent.doing ≡ true → told_to who (of_job fixed agent (Transaction caller site ops) events) ≤ 2
tellings_are_few fixed agent caller site ops events who idle = search (begin_few, all_few, arith)
