-- A transaction asks once to be decided.
use Rattle.txn_core.proofs.Vocabulary.{◌≡◌, ℕ, ◌+◌, ◌≤◌, false, cond, List, [], ◌∷◌, ◌++◌, Option, Some, None, refl, sym, ap, subst, arith, Request, Verdict, Cache, Suites, Response, Ending, Fixed, Task, Phase, Finishing, TransactionRun, Doing}
use Rattle.txn_core.proofs.Vocabulary.{Running, RunningSweep, After, tell_end, after_response, request_in, Agent, Event, Take, Forget, next_in, next_of, left, take_in, take, forget, Exchange, exchange_of, exchanges, count_of, is_decide}
use Rattle.txn_core.proofs.Vocabulary.{DecideIsSentOnce}
use Rattle.txn_core.proofs.Asks.{asks_same, asked_as, fetched_as}

abbrev decides : List Exchange → ℕ
decides past = count_of (λ one. is_decide one.request) past

-- how often it may still ask
abbrev may_in : Phase → ℕ
may_in (Finishing servers told ending) = 0
may_in _ = 1

abbrev may : Option Doing → ℕ
may (Some (Running txn_run)) = may_in txn_run.phase
may (Some (RunningSweep sweep_run)) = 0
may None = 0

once : (phase : Phase) → may_in phase ≤ 1
once phase = search arith

once_left : (after : After TransactionRun) → may (left Running after) ≤ 1
once_left after = search arith

-- what tells an end asks no more
no_more : (task : Task) (cache : Cache) (suites : Suites) (v : Verdict) (ending : Ending) (servers : List ℕ) → may (left Running (tell_end task cache suites v ending servers).after) ≡ 0
no_more task cache suites v ending servers = search arith

calm : (asked : Request) (after : After TransactionRun) → is_decide asked ≡ false → cond (is_decide asked) 1 0 + may (left Running after) ≤ 1
calm asked after other = subst (λ b. cond b 1 0 + may (left Running after) ≤ 1) (sym other) (let most = once_left after in omega arith)

response_once : (fixed : Fixed) (task : Task) (cache : Cache) (suites : Suites) (phase : Phase) (server : ℕ) (asked : Request) (response : Response) → request_in fixed task suites phase ≡ Some (server, asked)
    → cond (is_decide asked) 1 0 + may (left Running (after_response fixed (record { task = task; suites = suites; phase = phase }) cache server asked response).after) ≤ may_in phase
response_once fixed task cache suites phase server asked response h8 = search (calm, asked_as, fetched_as, asks_same, no_more, arith)

take_once : (fixed : Fixed) (agent : Agent) (response : Response) (doing : Option Doing) (asked : Option (ℕ × Request)) → agent.doing ≡ doing → next_in fixed doing ≡ asked
    → decides (exchange_of asked response) + may (take_in fixed agent response doing asked).agent.doing ≤ may doing
take_once fixed agent response (Some (Running running)) (Some asked) was is = let one = response_once fixed running.task agent.cache running.suites running.phase asked.0 asked.1 response is in omega (arith, one)
take_once fixed agent response (Some (Running running)) None was is = let same = ap may was in omega (arith, same)
take_once fixed agent response (Some (RunningSweep sweep_run)) (Some asked) was is = search (asks_same, arith)
take_once fixed agent response (Some (RunningSweep sweep_run)) None was is = cc
take_once fixed agent response None (Some asked) was is = cc
take_once fixed agent response None None was is = let same = ap may was in omega (arith, same)

count-append : (past later : List Exchange) → decides (past ++ later) ≡ decides past + decides later
count-append [] later = omega arith
count-append (one ∷ past) later = let rest = count-append past later in omega (arith, rest)

all_once : (fixed : Fixed) (agent : Agent) (events : List Event) → decides (exchanges fixed agent events) ≤ may agent.doing
all_once fixed agent [] = omega arith
all_once fixed agent (Forget site ∷ events) = all_once fixed (forget agent site) events
all_once fixed agent (Take response ∷ events) =
    let rest = all_once fixed (take fixed agent response).agent events in
    let one = take_once fixed agent response agent.doing (next_of fixed agent) refl refl in
    let sum = count-append (exchange_of (next_of fixed agent) response) (exchanges fixed (take fixed agent response).agent events) in
    omega (arith, rest, one, sum)

may_once : (doing : Option Doing) → may doing ≤ 1
may_once doing = search arith

pub decide_is_sent_once : DecideIsSentOnce
decide_is_sent_once fixed agent job events idle = search (all_once, may_once, arith)
