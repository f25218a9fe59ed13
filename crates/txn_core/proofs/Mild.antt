-- Until its home has answered a transaction ends with Aborted alone.
use Rattle.txn_core.proofs.Vocabulary.{◌≡◌, ℕ, ◌+◌, true, false, cond, List, [], ◌∷◌, ◌++◌, Option, Some, None, refl, sym, subst, nat_lt, ◌&&◌, ◌*◌, Exchange, exchange_of, exchanges, of_job, is_decide, said_by, told_verdict, arith}
use Rattle.txn_core.proofs.Vocabulary.{FinishCarriesTheVerdict, Agent, Event, Take, Forget, next_in, next_of, left, take_in, take, begin, started, forget, is_idle, has_sense, max_jobs, after_all, Request, Verdict, Reply, Cache, Suites, suite_of}
use Rattle.txn_core.proofs.Vocabulary.{Response, Cause, Ending, Job, Replied, Lacked, Transaction, Sweep, Fixed, Task, home_of, Proposal, Phase, Gathering, Fetching, Widening, Preparing, Deciding, Finishing, TransactionRun, SweepRun, Doing, Running}
use Rattle.txn_core.proofs.Vocabulary.{RunningSweep, After, GoesOn, Ends, lack_cause, Step, tell_end, give_up, prepare, locked_at, prepared, decided, after_response, request_in, decision_of, verdict_in}
use Rattle.rep_core.specs.declared.request.Request.TheVariants as request
use Rattle.txn_core.specs.Sweeps as sweep
use Rattle.rep_core.specs.declared.reply.Verdict.TheVariants as verdict
use Rattle.txn_core.proofs.Asks.{asks_same, asked_as, fetched_as}
use Rattle.txn_core.proofs.Walk.{IsEarly, goes_response, goes_execute}

-- a phase that tells the end tells this verdict; before, the verdict is Aborted
abbrev pub TellsOnly : Verdict → Phase → Type 0
TellsOnly v (Finishing servers told ending) = told ≡ v
TellsOnly v _ = v ≡ verdict.Aborted

-- what is left after a step tells no other verdict
abbrev pub LeftTells : Verdict → After TransactionRun → Type 0
LeftTells v (GoesOn txn_run) = TellsOnly v txn_run.phase
LeftTells v (Ends ending) = Unit {0}

abbrev pub IsMild : Step → Type 0
IsMild step = LeftTells verdict.Aborted step.after

pub tells_end : (task : Task) (cache : Cache) (suites : Suites) (v : Verdict) (ending : Ending) (servers : List ℕ) → LeftTells v (tell_end task cache suites v ending servers).after
tells_end task cache suites v ending servers = search arith

pub mild_give_up : (task : Task) (cache : Cache) (suites : Suites) (cause : Cause) → IsMild (give_up task cache suites cause)
mild_give_up task cache suites cause = tells_end task cache suites verdict.Aborted _ (locked_at suites)

mild_prepare : (task : Task) (cache : Cache) (suites : Suites) (outcome : Proposal) (servers : List ℕ) → IsMild (prepare task cache suites outcome servers)
mild_prepare task cache suites outcome servers = search arith

mild_early : (task : Task) (suites : Suites) (phase : Phase) → IsEarly phase → LeftTells verdict.Aborted (GoesOn (record { task = task; suites = suites; phase = phase }))
mild_early task suites phase h3 = search arith

mild_prepares : (task : Task) (cache : Cache) (suites : Suites) (outcome : Proposal) → IsMild (prepare task cache suites outcome (locked_at suites))
mild_prepares task cache suites outcome = mild_prepare task cache suites outcome (locked_at suites)

mild_response : (fixed : Fixed) (task : Task) (cache : Cache) (suites : Suites) (phase : Phase) (server : ℕ) (asked : Request) (response : Response) → IsEarly phase
    → IsMild (after_response fixed (record { task = task; suites = suites; phase = phase }) cache server asked response)
mild_response fixed task cache suites phase server asked response is = goes_response task (LeftTells verdict.Aborted) (mild_early task) (mild_give_up task) (mild_prepares task) fixed cache suites phase server asked response is

mild_prepared : (task : Task) (cache : Cache) (suites : Suites) (outcome : Proposal) (server : ℕ) (left : List ℕ) (said : Reply) → IsMild (prepared task cache suites outcome server left said)
mild_prepared task cache suites outcome server left said = search (mild_prepare, mild_give_up, arith)

-- what follows on the response of the home
tells_decided : (task : Task) (cache : Cache) (suites : Suites) (said : Reply) → LeftTells (said_by (Replied said) verdict.Aborted) (decided task cache suites said).after
tells_decided task cache suites said = tells_end task cache suites (verdict_in said verdict.Aborted) _ (locked_at suites)

-- ---- one response

-- a response on anything but a Decide changes no verdict
calm : (asked : Request) (response : Response) (v : Verdict) (after : After TransactionRun) → is_decide asked ≡ false → v ≡ verdict.Aborted → LeftTells verdict.Aborted after → LeftTells (cond (is_decide asked) (said_by response v) v) after
calm asked response v after other aborted tells = search arith

response_tells : (fixed : Fixed) (task : Task) (cache : Cache) (suites : Suites) (phase : Phase) (server : ℕ) (asked : Request) (response : Response) (v : Verdict)
    → request_in fixed task suites phase ≡ Some (server, asked) → TellsOnly v phase
    → LeftTells (cond (is_decide asked) (said_by response v) v) (after_response fixed (record { task = task; suites = suites; phase = phase }) cache server asked response).after
response_tells fixed task cache suites (Gathering number) server asked response v is tells =
    calm asked response v _ (asked_as is_decide false task number (suite_of suites number) server asked (λ mode. refl) refl is) tells (mild_response fixed task cache suites (Gathering number) server asked response tt)
response_tells fixed task cache suites (Fetching number) server asked response v is tells = search (calm, fetched_as, mild_response, arith)
response_tells fixed task cache suites (Widening [] granted) server asked response v is tells = cc
response_tells fixed task cache suites (Widening (number ∷ left) granted) server asked response v is tells =
    calm asked response v _ (asked_as is_decide false task number (suite_of suites number) server asked (λ mode. refl) refl is) tells (mild_response fixed task cache suites (Widening (number ∷ left) granted) server asked response tt)
response_tells fixed task cache suites (Preparing [] outcome) server asked response v is tells = cc
response_tells fixed task cache suites (Preparing (now ∷ left) outcome) server asked response v is tells = search (asks_same, calm, mild_prepared, mild_give_up, arith)
response_tells fixed task cache suites (Deciding outcome) server asked response v is tells =
    let same = asks_same (home_of fixed.service task.t) server (request.Decide task.t (decision_of task outcome)) asked is in
    subst (λ asked. LeftTells (cond (is_decide asked) (said_by response v) v) (after_response fixed (record { task = task; suites = suites; phase = Deciding outcome }) cache server asked response).after) same
    (subst (λ v. LeftTells (said_by response v) (after_response fixed (record { task = task; suites = suites; phase = Deciding outcome }) cache server
    (request.Decide task.t (decision_of task outcome)) response).after) (sym tells) (of response))
  where
    of : (response : Response) → LeftTells (said_by response verdict.Aborted)
        (after_response fixed (record { task = task; suites = suites; phase = Deciding outcome }) cache server (request.Decide task.t (decision_of task outcome)) response).after
    of (Replied said) = tells_decided task cache suites said
    of (Lacked lacked) = mild_give_up task cache suites (lack_cause server lacked)
response_tells fixed task cache suites (Finishing [] told ending) server asked response v is tells = cc
response_tells fixed task cache suites (Finishing (now ∷ left) told ending) server asked response v is tells = search (asks_same, tells_end, arith)

-- ---- all responses

-- what an agent does tells this verdict
abbrev pub Tells : Verdict → Option Doing → Type 0
Tells v (Some (Running txn_run)) = TellsOnly v txn_run.phase
Tells v (Some (RunningSweep sweep_run)) = Unit {0}
Tells v None = Unit {0}

left_tells : (v : Verdict) (after : After TransactionRun) → LeftTells v after → Tells v (left Running after)
left_tells v after h2 = search arith

-- a sweep tells nothing here
round_tells : (v : Verdict) (after : After SweepRun) → Tells v (left RunningSweep after)
round_tells v after = search arith

take_tells : (fixed : Fixed) (agent : Agent) (response : Response) (v : Verdict) (doing : Option Doing) (asked : Option (ℕ × Request)) → agent.doing ≡ doing → next_in fixed doing ≡ asked → Tells v doing
    → Tells (told_verdict v (exchange_of asked response)) (take_in fixed agent response doing asked).agent.doing
take_tells fixed agent response v (Some (Running running)) (Some asked) was is tells = search (response_tells fixed running.task agent.cache running.suites running.phase asked.0 asked.1 response v is tells, left_tells, arith)
take_tells fixed agent response v (Some (Running running)) None was is tells = subst (Tells v) (sym was) tells
take_tells fixed agent response v (Some (RunningSweep sweep_run)) (Some asked) was is tells = round_tells _ (sweep.after_response fixed.service sweep_run asked.0 response)
take_tells fixed agent response v (Some (RunningSweep sweep_run)) None was is tells = subst (Tells v) (sym was) tells
take_tells fixed agent response v None (Some asked) was is tells = cc
take_tells fixed agent response v None None was is tells = subst (Tells v) (sym was) tells

told-append : (v : Verdict) (past later : List Exchange) → told_verdict v (past ++ later) ≡ told_verdict (told_verdict v past) later
told-append v [] later = refl
told-append v (one ∷ past) later = told-append (cond (is_decide one.request) (said_by one.response v) v) past later

all_tell : (fixed : Fixed) (agent : Agent) (v : Verdict) (events : List Event) → Tells v agent.doing → Tells (told_verdict v (exchanges fixed agent events)) (after_all fixed agent events).doing
all_tell fixed agent v [] tells = tells
all_tell fixed agent v (Forget site ∷ events) tells = all_tell fixed (forget agent site) v events tells
all_tell fixed agent v (Take response ∷ events) tells =
    subst (λ v. Tells v (after_all fixed (take fixed agent response).agent events).doing) (sym (told-append v (exchange_of (next_of fixed agent) response) (exchanges fixed (take fixed agent response).agent events)))
    (all_tell fixed (take fixed agent response).agent (told_verdict v (exchange_of (next_of fixed agent) response)) events (take_tells fixed agent response v agent.doing (next_of fixed agent) refl refl tells))

begin_tells : (fixed : Fixed) (agent : Agent) (job : Job) → is_idle agent.doing ≡ true → Tells verdict.Aborted (begin fixed agent job).doing
begin_tells fixed agent job idle =
    elim (is_idle agent.doing && has_sense fixed job && nat_lt agent.count max_jobs) as (λ b. Tells verdict.Aborted (cond b (record (started fixed agent job) { count = agent.count + 1 }) agent).doing) [
      | true ↦ of job
      | false ↦ at agent.doing idle
    ]
  where
    at : (doing : Option Doing) → is_idle doing ≡ true → Tells verdict.Aborted doing
    at doing h1 = search arith

    of : (job : Job) → Tells verdict.Aborted (started fixed agent job).doing
    of (Transaction caller site ops) = let task : Task = record { t = 64 * agent.count + agent.index; caller = caller; site = site; ops = ops } in
        left_tells verdict.Aborted _ (goes_execute task (LeftTells verdict.Aborted) (mild_early task) (mild_give_up task) (mild_prepares task) fixed
        (record { suites = []; cache = agent.cache }))
    of (Sweep server) = tt

pub finish_carries_the_verdict : FinishCarriesTheVerdict
finish_carries_the_verdict fixed agent job events txn_run servers v ending idle is phase =
    subst (TellsOnly (told_verdict verdict.Aborted (of_job fixed agent job events))) phase
    (subst (Tells (told_verdict verdict.Aborted (of_job fixed agent job events))) is (all_tell fixed (begin fixed agent job) verdict.Aborted events (begin_tells fixed agent job idle)))
