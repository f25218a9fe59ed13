-- Whom a transaction polled it does not poll again.
use Rattle.txn_core.proofs.Vocabulary.{◌≡◌, ℕ, ◌+◌, ◌≤◌, true, false, cond, ◌⊎◌, inl, inr, List, [], ◌∷◌, ◌++◌, Option, Some, None, refl, sym, ap, subst, ◌∙◌, arith, ◌==◌, ◌&&◌, nat_lt, ◌*◌, nat_cmp, false≢true, same_Some, IsOrdered, LockMode}
use Rattle.txn_core.proofs.Vocabulary.{Request, Exchange, exchange_of, exchanges, of_job, locks, was_asked, count_of, NobodyIsPolledTwice, Agent, Event, Take, Forget, next_in, next_of, take_in, take, begin, started, forget, is_idle, has_sense}
use Rattle.txn_core.proofs.Vocabulary.{max_jobs, after_all, Told, Said, has_told, Collector, all_told, mode_of, request_for, mode_asked, Asked, Poll, Upgrade, Next, Ask, next, Cache, GatheredSuite, Suites, suite_of, with_suite, told_at, told_in}
use Rattle.txn_core.proofs.Vocabulary.{Response, Job, Transaction, Sweep, Fixed, Task, Phase, Gathering, Fetching, Widening, Preparing, Deciding, Finishing, TransactionRun, Sweeping, SweepRun, Doing, Running, RunningSweep, After, GoesOn, Ends, Step}
use Rattle.txn_core.proofs.Vocabulary.{locked_at, is_poll, after_response, asked_by, asked_for, request_in, nobody_is_asked_twice, Stage, Executes, Widens, Asks, Prepares, PreparesAt, GivesUp, Tells, TellsAt, Point, point, EndsIn, Move, Collects}
use Rattle.txn_core.proofs.Vocabulary.{now_told, Hears, asks_on, falls_short, settles, gets, prepared_by, Down}
use Rattle.suite_collect.proofs.Fewness.{times, Few, few_more, never}
use Rattle.rep_core.specs.declared.request.Request.TheVariants as request
use Rattle.txn_core.specs.Agents as agents
use Rattle.txn_core.specs.Sweeps as sweep
use Rattle.txn_core.proofs.Asks.{asks_same}
use Rattle.txn_core.proofs.Over.{IsOver, LeftOver, over_end, over_give_up, stays_over}
use Rattle.txn_core.proofs.ToldLists.{Are, Leaves, told_with, are_with, are_same, move_are, leaves_execute, IsQuiet, quiet_asks, asks_lock, are_nil, all_told-tell}
use Rattle.txn_core.proofs.Moving.{kept, left_by, collects_asks, response_moves}

-- ---- who was asked, and how often

-- of these suites these servers were asked so often
abbrev Asked' : (ℕ → ℕ → ℕ) → (ℕ → List Told) → Type 0
Asked' asked told = (number who : ℕ) → times who (told number) ≡ asked number who

abbrev AllFew : (ℕ → List Told) → Type 0
AllFew told = (number : ℕ) → Few (told number)

-- none more than twice
abbrev pub Bounded : (ℕ → ℕ → ℕ) → Type 0
Bounded asked = (number who : ℕ) → asked number who ≤ 2

abbrev adds : ℕ → Request → ℕ → ℕ → ℕ
adds server asked number who = cond ((server == who) && locks number asked) 1 0

abbrev plus : (ℕ → ℕ → ℕ) → ℕ → Request → ℕ → ℕ → ℕ
plus before server asked number who = before number who + adds server asked number who

record Knows (before : ℕ → ℕ → ℕ) (after : After TransactionRun) : Type 0 where
  told : ℕ → List Told
  leaves : Leaves told after
  agree : Asked' before told
  few : AllFew told

-- it is over, or it knows whom it asked
abbrev LeftWith : (ℕ → ℕ → ℕ) → After TransactionRun → Type 0
LeftWith before after = (LeftOver after × Bounded before) ⊎ Knows before after

bounded_by : (before : ℕ → ℕ → ℕ) (told : ℕ → List Told) → Asked' before told → AllFew told → Bounded before
bounded_by before told agree few number who = let same = agree number who in let bound = (few number who).0 in omega (arith, same, bound)

no_more : (before : ℕ → ℕ → ℕ) (server : ℕ) (asked : Request) (number who : ℕ) → locks number asked ≡ false → before number who ≡ plus before server asked number who
no_more before server asked number who none = search arith

quiet_bounded : (before : ℕ → ℕ → ℕ) (server : ℕ) (asked : Request) → Bounded before → ((number : ℕ) → locks number asked ≡ false) → Bounded (plus before server asked)
quiet_bounded before server asked bounded none number who = let same = no_more before server asked number who (none number) in let bound = bounded number who in omega (arith, same, bound)

asked_more : (before : ℕ → ℕ → ℕ) (told : ℕ → List Told) (number server : ℕ) (one : Told) (list : List Told) (asked : Request) → Asked' before told → list ≡ told number → one.server ≡ server
    → ((other : ℕ) → locks other asked ≡ (number == other)) → Asked' (plus before server asked) (told_with number (one ∷ list) told)
asked_more before told number server one list asked agree was by lock other who = search arith

few_with : (told : ℕ → List Told) (number : ℕ) (list : List Told) → AllFew told → Few list → AllFew (told_with number list told)
few_with told number list few here other = search arith

-- what a collector asks it asks of few
few_asked : (task : Task) (number : ℕ) (collector : Collector) (server : ℕ) (asked : Request) (said : Said) → asked_by task number (next collector) ≡ Some (server, asked) → Few (all_told collector)
    → Few (record { server = server; mode = mode_of asked; said = said } ∷ all_told collector)
few_asked task number collector server asked said is few = of (next collector) refl is
  where
    mode_for : (question : Asked) → mode_of (request_for task.t number question) ≡ mode_asked question
    mode_for question = search arith

    of : (after : Next) → next collector ≡ after → asked_by task number after ≡ Some (server, asked) → Few (record { server = server; mode = mode_of asked; said = said } ∷ all_told collector)
    of (Ask at question) was is =
        few_more collector question (record { server = server; mode = mode_of asked; said = said })
        (was ∙ ap (λ at. Ask at question) (ap (λ (pair : ℕ × Request). pair.0) (same_Some (at, request_for task.t number question) (server, asked) is)))
        (ap mode_of (sym (asks_same at server (request_for task.t number question) asked is)) ∙ mode_for question) few
    of _ was is = cc

-- one more that was told to a collector
record Told' (before : ℕ → ℕ → ℕ) (told : ℕ → List Told) (number server : ℕ) (asked : Request) (list : List Told) (said : Said) : Type 0 where
  agree : Asked' (plus before server asked) (told_with number (record { server = server; mode = mode_of asked; said = said } ∷ list) told)
  few : AllFew (told_with number (record { server = server; mode = mode_of asked; said = said } ∷ list) told)

told_more : (before : ℕ → ℕ → ℕ) (told : ℕ → List Told) (task : Task) (suites : Suites) (number : ℕ) (suite : GatheredSuite) (server : ℕ) (asked : Request) (said : Said)
    → Are told suites → Asked' before told → AllFew told → suite_of suites number ≡ Some suite → asked_for task number (Some suite) ≡ Some (server, asked) → Told' before told number server asked (all_told suite.collector) said
told_more before told task suites number suite server asked said are agree few there is =
    let same : all_told suite.collector ≡ told number = ap told_in (sym there) ∙ are.1 number in
    record {
      agree = asked_more before told number server (record { server = server; mode = mode_of asked; said = said }) (all_told suite.collector) asked agree same refl (asks_lock task number (Some suite) server asked is);
      few = few_with told number _ few (few_asked task number suite.collector server asked said is (subst Few (sym same) (few number)));
    }

asked_bounded : (before : ℕ → ℕ → ℕ) (told : ℕ → List Told) (task : Task) (suites : Suites) (number : ℕ) (found : Option GatheredSuite) (server : ℕ) (asked : Request)
    → Are told suites → Asked' before told → AllFew told → suite_of suites number ≡ found → asked_for task number found ≡ Some (server, asked) → Bounded (plus before server asked)
asked_bounded before told task suites number None server asked are agree few there is = cc
asked_bounded before told task suites number (Some suite) server asked are agree few there is = search (told_more before told task suites number suite server asked Down are agree few there is, bounded_by, arith)

-- whatever is asked, few were asked
response_bounded : (before : ℕ → ℕ → ℕ) (told : ℕ → List Told) (fixed : Fixed) (task : Task) (suites : Suites) (phase : Phase) (server : ℕ) (asked : Request) → Are told suites → Asked' before told → AllFew told
    → request_in fixed task suites phase ≡ Some (server, asked) → Bounded (plus before server asked)
response_bounded before told fixed task suites phase server asked are agree few is = of phase is
  where
    quiet' : (phase : Phase) → IsQuiet phase → request_in fixed task suites phase ≡ Some (server, asked) → Bounded (plus before server asked)
    quiet' phase none is = quiet_bounded before server asked (bounded_by before told agree few) (quiet_asks fixed task suites phase server asked none is)

    of : (phase : Phase) → request_in fixed task suites phase ≡ Some (server, asked) → Bounded (plus before server asked)
    of (Gathering number) is = asked_bounded before told task suites number (suite_of suites number) server asked are agree few refl is
    of (Widening [] granted) is = cc
    of (Widening (number ∷ left) granted) is = asked_bounded before told task suites number (suite_of suites number) server asked are agree few refl is
    of (Fetching number) is = quiet' (Fetching number) tt is
    of (Preparing servers outcome) is = quiet' (Preparing servers outcome) tt is
    of (Deciding outcome) is = quiet' (Deciding outcome) tt is
    of (Finishing servers v ending) is = quiet' (Finishing servers v ending) tt is

-- what holds after a word: its end is told, or it knows whom it asked
abbrev TellsEnd : Stage → Type 0
TellsEnd (GivesUp cause) = Unit {0}
TellsEnd (Tells v ending) = Unit {0}
TellsEnd (TellsAt servers v ending) = Unit {0}
TellsEnd other = ⊥

record KnowsAt (before : ℕ → ℕ → ℕ) (at : Point) : Type 0 where
  told : ℕ → List Told
  are : Are told at.suites
  agree : Asked' before told
  few : AllFew told

abbrev HeardAs : (ℕ → ℕ → ℕ) → Point → Type 0
HeardAs before at = (TellsEnd at.stage × Bounded before) ⊎ KnowsAt before at

module _ (before : ℕ → ℕ → ℕ) (told : ℕ → List Told) (fixed : Fixed) (task : Task) (cache : Cache) (suites : Suites) (server : ℕ) (asked : Request) (are : Are told suites) (agree : Asked' before told) (few : AllFew told) where
  knows_told : {phase : Phase} {number : ℕ} {stage : Stage} (suite new : GatheredSuite) (said : Said) → request_in fixed task suites phase ≡ Some (server, asked) → Collects phase number stage → suite_of suites number ≡ Some suite
      → new.collector ≡ (now_told server asked said suite).collector → (stage' : Stage) (cache' : Cache) → HeardAs (plus before server asked) (point stage' cache' (with_suite number new suites))
  knows_told {number = number} suite new said is collects there same stage' cache' =
      let list : all_told new.collector ≡ record { server = server; mode = mode_of asked; said = said } ∷ all_told suite.collector = ap all_told same ∙ all_told-tell
      (record { server = server; mode = mode_of asked; said = said }) suite.collector in
      let asks : asked_for task number (Some suite) ≡ Some (server, asked) = ap (asked_for task number) (sym there) ∙ sym (collects_asks fixed task suites collects) ∙ is in
      let more = told_more before told task suites number suite server asked said are agree few there asks in
      inr (record {
        told = told_with number (all_told new.collector) told;
        are = are_with told suites number new are;
        agree = λ other who. ap (λ list. times who (told_with number list told other)) list ∙ more.agree other who;
        few = subst (λ list. AllFew (told_with number list told)) (sym list) more.few;
      })

  knows_hears : {phase : Phase} {response : Response} {heard : Point} → Hears fixed task cache suites server asked phase response heard → request_in fixed task suites phase ≡ Some (server, asked) → HeardAs (plus before server asked) heard
  knows_hears (asks_on {suite = suite} {said = said} collects there says next) is = knows_told suite _ said is collects there refl _ _
  knows_hears (falls_short {suite = suite} {said = said} collects there says next) is = knows_told suite _ said is collects there refl _ _
  knows_hears (settles {suite = suite} {said = said} collects there says next) is = knows_told suite _ said is collects there refl _ _
  knows_hears (gets {number = number} there was given) is = inr (record {
    told = told;
    are = are_same told suites number _ are (sym (ap told_in there));
    agree = λ other who. agree other who ∙ no_more before server asked other who (quiet_asks fixed task suites (Fetching number) server asked tt is other);
    few = few;
  })
  knows_hears (prepared_by {now = now} {left = left} {outcome = outcome} prepared) is = inr (record {
    told = told;
    are = are;
    agree = λ other who. agree other who ∙ no_more before server asked other who (quiet_asks fixed task suites (Preparing (now ∷ left) outcome) server asked tt is other);
    few = few;
  })
  knows_hears {phase = phase} _ is = inl (tt, response_bounded before told fixed task suites phase server asked are agree few is)

-- once its end is told no move follows
move_heard : (before : ℕ → ℕ → ℕ) (fixed : Fixed) (task : Task) (at later : Point) → Move fixed task at later → HeardAs before at → HeardAs before later
move_heard before fixed task at later move (inr knows) = inr (record { told = knows.told; are = move_are knows.told fixed task move knows.are; agree = knows.agree; few = knows.few })
move_heard before fixed task at later move (inl over) = absurd (of move over.0)
  where
    of : {at next : Point} → Move fixed task at next → TellsEnd at.stage → ⊥
    of h0 h1 = search arith

left_end : (before : ℕ → ℕ → ℕ) (task : Task) (at : Point) (step : Step) → EndsIn task at.cache at.suites at.stage step → HeardAs before at → LeftWith before step.after
left_end before task at step ends (inl over) = inl (of at.stage ends over.0, over.1)
  where
    of : (stage : Stage) → EndsIn task at.cache at.suites stage step → TellsEnd stage → LeftOver step.after
    of (GivesUp cause) is tells = subst (λ (step : Step). LeftOver step.after) is (over_give_up task at.cache at.suites cause)
    of (Tells v ending) is tells = subst (λ (step : Step). LeftOver step.after) is (over_end task at.cache at.suites v ending (locked_at at.suites))
    of (TellsAt servers v ending) is tells = subst (λ (step : Step). LeftOver step.after) is (over_end task at.cache at.suites v ending servers)
    of (Asks phase) is tells = absurd tells
    of (Prepares outcome) is tells = absurd tells
    of (PreparesAt servers outcome) is tells = absurd tells
    of Executes is tells = absurd tells
    of (Widens left granted) is tells = absurd tells
left_end before task at step ends (inr knows) = inr (record { told = knows.told; leaves = left_by task (λ step. Leaves knows.told step.after) at step (λ phase. knows.are) (λ ending. tt) ends; agree = knows.agree; few = knows.few })

left_response : (before : ℕ → ℕ → ℕ) (told : ℕ → List Told) (fixed : Fixed) (task : Task) (cache : Cache) (suites : Suites) (phase : Phase) (server : ℕ) (asked : Request)
    (response : Response) → Are told suites → Asked' before told → AllFew told
    → request_in fixed task suites phase ≡ Some (server, asked) → LeftWith (plus before server asked) (after_response fixed (record { task = task; suites = suites; phase = phase }) cache server asked response).after
left_response before told fixed task cache suites phase server asked response are agree few is =
    let moves = response_moves fixed task cache suites server asked phase response in
    let now = kept fixed task (HeardAs (plus before server asked)) (move_heard (plus before server asked) fixed task) moves.moves.moves (knows_hears before told fixed task cache suites server asked are agree few moves.hears is) in
    left_end (plus before server asked) task moves.moves.end _ moves.moves.ends now

-- ---- all responses

-- what a transaction that is not over keeps
abbrev pub Keeps : (ℕ → ℕ → ℕ) → Option Doing → Type 0
Keeps before (Some (Running txn_run)) = (IsOver txn_run.phase × Bounded before) ⊎ (IsOrdered nat_cmp txn_run.suites × Asked' before (told_at txn_run.suites) × AllFew (told_at txn_run.suites))
Keeps before (Some (RunningSweep sweep_run)) = Bounded before
Keeps before None = Bounded before

left_keeps : (before : ℕ → ℕ → ℕ) (after : After TransactionRun) → LeftWith before after → Keeps before (agents.left Running after)
left_keeps before (GoesOn txn_run) (inl over) = inl over
left_keeps before (GoesOn txn_run) (inr with') = inr (
  with'.leaves.0,
  λ number who. ap (times who) (with'.leaves.1 number) ∙ with'.agree number who,
  λ number. subst Few (sym (with'.leaves.1 number)) (with'.few number),
)
left_keeps before (Ends ending) (inl over) = over.1
left_keeps before (Ends ending) (inr with') = bounded_by before with'.told with'.agree with'.few

round_keeps : (before : ℕ → ℕ → ℕ) (after : After SweepRun) → Bounded before → Keeps before (agents.left RunningSweep after)
round_keeps before after h2 = search arith

over_keeps : (before : ℕ → ℕ → ℕ) (after : After TransactionRun) → LeftOver after → Bounded before → Keeps before (agents.left Running after)
over_keeps before after h2 h3 = search arith

pub keeps_bounded : (before : ℕ → ℕ → ℕ) (doing : Option Doing) → Keeps before doing → Bounded before
keeps_bounded before doing h2 = search arith

-- how often a server was asked for a lock on a suite
abbrev pub asked_for_locks : List Exchange → ℕ → ℕ → ℕ
asked_for_locks past number who = count_of (λ one. (one.server == who) && locks number one.request) past

abbrev plus_all : (ℕ → ℕ → ℕ) → List Exchange → ℕ → ℕ → ℕ
plus_all before past number who = before number who + asked_for_locks past number who

same_keeps : (before other : ℕ → ℕ → ℕ) (doing : Option Doing) → ((number who : ℕ) → before number who ≡ other number who) → Keeps before doing → Keeps other doing
same_keeps before other doing h3 h4 = search arith

none_more : (before : ℕ → ℕ → ℕ) (number who : ℕ) → before number who ≡ before number who + 0
none_more before number who = omega arith

once_more : (before : ℕ → ℕ → ℕ) (server : ℕ) (asked : Request) (response : Response) (number who : ℕ) → plus before server asked number who ≡ plus_all before (exchange_of (Some (server, asked)) response) number who
once_more before server asked response number who = omega arith

-- a sweep asks for no lock
round_locks : (fixed : Fixed) (sweep_run : SweepRun) (now : Sweeping) (server : ℕ) (asked : Request)
    → ◌≡◌ {A = Option (ℕ × Request)} (Some (sweep.asked_now fixed.service sweep_run now)) (Some (server, asked)) → (number : ℕ) → locks number asked ≡ false
round_locks fixed sweep_run now server asked h5 number = search arith

over_locks : (fixed : Fixed) (task : Task) (suites : Suites) (phase : Phase) (server : ℕ) (asked : Request) → IsOver phase → request_in fixed task suites phase ≡ Some (server, asked) → (number : ℕ) → locks number asked ≡ false
over_locks fixed task suites phase server asked h6 h7 number = search arith

take_keeps : (before : ℕ → ℕ → ℕ) (fixed : Fixed) (agent : Agent) (response : Response) (doing : Option Doing) (asked : Option (ℕ × Request)) → agent.doing ≡ doing → next_in fixed doing ≡ asked → Keeps before doing
    → Keeps (plus_all before (exchange_of asked response)) (take_in fixed agent response doing asked).agent.doing
take_keeps before fixed agent response (Some (Running running)) (Some asked) was is (inl over) = search (same_keeps, once_more, over_keeps, stays_over, quiet_bounded, over_locks, arith)
take_keeps before fixed agent response (Some (Running running)) (Some asked) was is (inr keeps) =
    same_keeps (plus before asked.0 asked.1) (plus_all before (exchange_of (Some asked) response)) _ (once_more before asked.0 asked.1 response)
    (left_keeps (plus before asked.0 asked.1) _ (left_response before (told_at running.suites) fixed running.task agent.cache running.suites running.phase asked.0 asked.1 response (keeps.0, λ number. refl) keeps.1 keeps.2 is))
take_keeps before fixed agent response (Some (Running running)) None was is keeps = subst (Keeps (plus_all before [])) (sym was) (same_keeps before (plus_all before []) (Some (Running running)) (none_more before) keeps)
take_keeps before fixed agent response (Some (RunningSweep sweep_run)) (Some asked) was is bounded = grind (round_keeps, same_keeps, once_more, quiet_bounded, round_locks, arith)
take_keeps before fixed agent response (Some (RunningSweep sweep_run)) None was is keeps = cc
take_keeps before fixed agent response None (Some asked) was is keeps = cc
take_keeps before fixed agent response None None was is keeps = subst (Keeps (plus_all before [])) (sym was) (same_keeps before (plus_all before []) None (none_more before) keeps)

asked-append : (past later : List Exchange) (number who : ℕ) → asked_for_locks (past ++ later) number who ≡ asked_for_locks past number who + asked_for_locks later number who
asked-append [] later number who = omega arith
asked-append (one ∷ past) later number who = let rest = asked-append past later number who in omega (arith, rest)

all_keep : (before : ℕ → ℕ → ℕ) (fixed : Fixed) (agent : Agent) (events : List Event) → Keeps before agent.doing → Keeps (plus_all before (exchanges fixed agent events)) (after_all fixed agent events).doing
all_keep before fixed agent [] keeps = same_keeps before (plus_all before []) agent.doing (none_more before) keeps
all_keep before fixed agent (Forget site ∷ events) keeps = all_keep before fixed (forget agent site) events keeps
all_keep before fixed agent (Take response ∷ events) keeps =
    let one = exchange_of (next_of fixed agent) response in
    let rest = exchanges fixed (take fixed agent response).agent events in
    same_keeps (plus_all (plus_all before one) rest) (plus_all before (one ++ rest)) (after_all fixed agent (Take response ∷ events)).doing
    (λ number who. let sum = asked-append one rest number who in omega (arith, sum))
    (all_keep (plus_all before one) fixed (take fixed agent response).agent events (take_keeps before fixed agent response agent.doing (next_of fixed agent) refl refl keeps))

abbrev nobody : ℕ → ℕ → ℕ
nobody number who = 0

begin_keeps : (fixed : Fixed) (agent : Agent) (job : Job) → is_idle agent.doing ≡ true → Keeps nobody (begin fixed agent job).doing
begin_keeps fixed agent job idle =
    elim (is_idle agent.doing && has_sense fixed job && nat_lt agent.count max_jobs) as (λ b. Keeps nobody (cond b (record (started fixed agent job) { count = agent.count + 1 }) agent).doing) [
      | true ↦ of job
      | false ↦ at agent.doing idle
    ]
  where
    at : (doing : Option Doing) → is_idle doing ≡ true → Keeps nobody doing
    at doing h1 = search arith

    of : (job : Job) → Keeps nobody (started fixed agent job).doing
    of (Transaction caller site ops) =
        let task : Task = record { t = 64 * agent.count + agent.index; caller = caller; site = site; ops = ops } in
        left_keeps nobody _
        (inr (record {
          told = λ number. [];
          leaves = leaves_execute (λ number. []) fixed task (record { suites = []; cache = agent.cache }) are_nil;
          agree = λ number who. refl;
          few = λ number who. (omega arith, λ _. omega arith);
        }))
    of (Sweep server) = λ number who. omega arith

-- ---- a Poll

number_same : {t u n m : ℕ} {a b : LockMode} → request.Poll t n a ≡ request.Poll u m b → n ≡ m
number_same is = cc

-- a Poll of a suite is its collector's, to a server that was told nothing of
poll_fresh : (task : Task) (who : ℕ) (suite : GatheredSuite) (server t number : ℕ) (mode : LockMode)
    → asked_by task who (next suite.collector) ≡ Some (server, request.Poll t number mode) → (who ≡ number) × (has_told (λ _. true) (all_told suite.collector) server ≡ false)
poll_fresh task who suite server t number mode is = of (next suite.collector) refl is
  where
    pair_of : (at : ℕ) (asked : Request) → ◌≡◌ {A = Option (ℕ × Request)} (Some (at, asked)) (Some (server, request.Poll t number mode)) → at ≡ server
    pair_of at asked is = ap (λ (pair : ℕ × Request). pair.0) (same_Some (at, asked) (server, request.Poll t number mode) is)

    of : (after : Next) → next suite.collector ≡ after → asked_by task who after ≡ Some (server, request.Poll t number mode) → (who ≡ number) × (has_told (λ _. true) (all_told suite.collector) server ≡ false)
    of (Ask at (Poll asked_mode)) was is = (
      number_same (asks_same at server (request.Poll task.t who asked_mode) (request.Poll t number mode) is),
      ap (has_told (λ _. true) (all_told suite.collector)) (sym (pair_of at (request.Poll task.t who asked_mode) is)) ∙ (nobody_is_asked_twice suite.collector at).0 asked_mode was,
    )
    of (Ask at Upgrade) was is = let same = asks_same at server (request.Upgrade task.t who) (request.Poll t number mode) is in cc
    of _ was is = cc

other_poll : {P : Type 0} (a b t number : ℕ) (mode : LockMode) (asked : Request) → is_poll asked ≡ false → ◌≡◌ {A = Option (ℕ × Request)} (Some (a, asked)) (Some (b, request.Poll t number mode)) → P
other_poll a b t number mode asked other is = absurd (false≢true (sym other ∙ ap is_poll (asks_same a b asked (request.Poll t number mode) is)))

fresh : (before : ℕ → ℕ → ℕ) (fixed : Fixed) (doing : Option Doing) (server t number : ℕ) (mode : LockMode) → Keeps before doing → next_in fixed doing ≡ Some (server, request.Poll t number mode) → before number server ≡ 0
fresh before fixed doing server t number mode h7 h8 = search (other_poll, poll_fresh, times, never, arith)

none_asked : (past : List Exchange) (number who : ℕ) → asked_for_locks past number who ≡ 0 → was_asked past number who ≡ false
none_asked [] number who is = refl
none_asked (one ∷ past) number who is = search (none_asked past number who, arith)

pub nobody_is_polled_twice : NobodyIsPolledTwice
nobody_is_polled_twice fixed agent job events server t suite mode idle is =
    let none = fresh (plus_all nobody (of_job fixed agent job events)) fixed (after_all fixed (begin fixed agent job) events).doing server t suite mode
    (all_keep nobody fixed (begin fixed agent job) events (begin_keeps fixed agent job idle)) is in
    none_asked (of_job fixed agent job events) suite server (omega (arith, none))

-- no server is asked more than twice for a lock on a suite
pub locks_are_few : (fixed : Fixed) (agent : Agent) (job : Job) (events : List Event) (number who : ℕ) → is_idle agent.doing ≡ true → asked_for_locks (of_job fixed agent job events) number who ≤ 2
locks_are_few fixed agent job events number who idle =
    let bound = keeps_bounded (plus_all nobody (of_job fixed agent job events)) (after_all fixed (begin fixed agent job) events).doing
    (all_keep nobody fixed (begin fixed agent job) events (begin_keeps fixed agent job idle)) number who in
    omega (arith, bound)
