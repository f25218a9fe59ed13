-- A transaction fetches no content twice.
use Rattle.txn_core.proofs.Vocabulary.{◌≡◌, ℕ, ◌+◌, ◌≤◌, Bool, true, false, cond, List, [], ◌∷◌, ◌++◌, Option, Some, None, refl, sym, ap, subst, ◌∙◌, arith, ◌==◌, ◌&&◌, ◌*◌, nat_lt, is_some, unsigned_tied, eqb-true, nat_cmp_total, get-insert}
use Rattle.txn_core.proofs.Vocabulary.{Content, Answer, Identity, Op, LockMode, Exclusive, serves, Request, Verdict, Hold, Know, Known, Heard, Needs, answered, next, Cache, ReadPoint, GatheredSuite, Suites, suite_of, with_suite, known_of, Response}
use Rattle.txn_core.proofs.Vocabulary.{Cause, Ending, Undecided, Transaction, Fixed, Task, Proposal, Phase, Gathering, Fetching, Widening, TransactionRun, Doing, Running, RunningSweep, After, GoesOn, Ends, Stage, Executes, Widens, Asks, Prepares}
use Rattle.txn_core.proofs.Vocabulary.{PreparesAt, GivesUp, Tells, TellsAt, Point, point, EndsIn, Move, opens, gathers, lacks_lock, refuses, grants, passes, widens, widens_by, lacks_wide, prepares, MovesTo, Collects, gathering, widening, Hears}
use Rattle.txn_core.proofs.Vocabulary.{asks_on, settles, gets, Step, Gathered, tell_end, give_up, prepare, locked_at, heard_on, raised_or_new, execute, after_response, asked_for, fetched_for, request_in, Agent, Event, Take, Forget, next_in, next_of}
use Rattle.txn_core.proofs.Vocabulary.{take_in, take, begin, started, forget, is_idle, has_sense, max_jobs, Exchange, exchange_of, exchanges, of_job, count_of, fetches as fetches'}
use Rattle.file_ops.specs.declared.refusal.Refusal.{Refusal}
use Rattle.file_exec.specs.declared.need.Need.{Need}
use Rattle.file_exec.proofs.Unmet.{needs_what_is_unmet}
use Rattle.rep_core.specs.declared.request.Request.TheVariants as request
use Rattle.rep_core.specs.declared.reply.Verdict.TheVariants as verdict
use Rattle.file_exec.specs.declared.executor.Outcome.TheVariants as exec
use Rattle.file_exec.specs.Known as known
use Rattle.txn_core.proofs.Moving.{kept, collects_asks, execute_moves, response_moves}
use Rattle.txn_core.specs.Agents as agents
use Rattle.txn_core.proofs.Asks.{asked_as}
use Rattle.txn_core.proofs.Setting.{known_at}

-- a request for the content of a suite
abbrev pub fetches : ℕ → Request → Bool
fetches suite (request.Fetch t number) = number == suite
fetches suite _ = false

-- how often the content of a suite was fetched
abbrev pub fetched_in : ℕ → List Exchange → ℕ
fetched_in suite past = count_of (λ one. fetches suite one.request) past

abbrev one_if : Bool → ℕ
one_if b = cond b 1 0

-- whether the content of a suite is there
abbrev content_in : Option GatheredSuite → ℕ
content_in (Some suite) = one_if (is_some suite.content)
content_in None = 0

-- what was fetched of a suite is there
abbrev Keeps : (ℕ → ℕ) → Suites → Type 0
Keeps before suites = (number : ℕ) → before number ≤ content_in (suite_of suites number)

abbrev Bounded : (ℕ → ℕ) → Type 0
Bounded before = (number : ℕ) → before number ≤ 1

one_most : (found : Option GatheredSuite) → content_in found ≤ 1
one_most found = search arith

bounded_by : (before : ℕ → ℕ) (suites : Suites) → Keeps before suites → Bounded before
bounded_by before suites keeps number = let bound = keeps number in let most = one_most (suite_of suites number) in omega (arith, bound, most)

-- a suite whose content stays there
keeps_with : (before : ℕ → ℕ) (suites : Suites) (number : ℕ) (found : Option GatheredSuite) (now : GatheredSuite) → suite_of suites number ≡ found
    → content_in found ≤ content_in (Some now) → Keeps before suites → Keeps before (with_suite number now suites)
keeps_with before suites number found now there more keeps other =
    subst (λ found. before other ≤ content_in found) (sym (get-insert nat_cmp_total suites number now other ∙ ap (λ b. cond b (Some now) (suite_of suites other)) (unsigned_tied number other)))
    (of (number == other) refl)
  where
    of : (b : Bool) → (number == other) ≡ b → before other ≤ content_in (cond b (Some now) (suite_of suites other))
    of b h1 = search (eqb-true, arith)

-- a suite whose content is not there is fetched
abbrev IsAway : Suites → ℕ → Type 0
IsAway suites number = (suite : GatheredSuite) (first : ReadPoint) → suite_of suites number ≡ Some suite → suite.first ≡ Some first → is_some suite.content ≡ false

abbrev InPhase : (ℕ → ℕ) → Suites → Phase → Type 0
InPhase before suites (Gathering number) = Keeps before suites
InPhase before suites (Fetching number) = Keeps before suites × IsAway suites number
InPhase before suites (Widening left granted) = Keeps before suites
InPhase before suites _ = Bounded before

abbrev Leaves : (ℕ → ℕ) → After TransactionRun → Type 0
Leaves before (GoesOn txn_run) = InPhase before txn_run.suites txn_run.phase
Leaves before (Ends ending) = Bounded before

l_end : (before : ℕ → ℕ) (task : Task) (cache : Cache) (suites : Suites) (v : Verdict) (ending : Ending) (servers : List ℕ) → Bounded before → Leaves before (tell_end task cache suites v ending servers).after
l_end before task cache suites v ending servers h7 = search arith

l_give_up : (before : ℕ → ℕ) (task : Task) (cache : Cache) (suites : Suites) (cause : Cause) → Bounded before → Leaves before (give_up task cache suites cause).after
l_give_up before task cache suites cause bounded = l_end before task cache suites verdict.Aborted (Undecided cause) (locked_at suites) bounded

l_prepare : (before : ℕ → ℕ) (task : Task) (cache : Cache) (suites : Suites) (outcome : Proposal) (servers : List ℕ) → Bounded before → Leaves before (prepare task cache suites outcome servers).after
l_prepare before task cache suites outcome servers h6 = search arith

-- a content more
more_content : (suite : GatheredSuite) (content : Content) → content_in (Some suite) ≤ content_in (Some (record suite { content = Some content }))
more_content suite content = one_most (Some suite)

pub needed_first : (known' : Known) (heard : Heard (List Answer) Refusal) (need : Need) → answered known' heard ≡ exec.Need need → heard ≡ Needs need
needed_first known' heard need h3 = search arith

away : (fixed : Fixed) (task : Task) (suites : Suites) (number : ℕ) → heard_on fixed task suites ≡ exec.Need (Know number) → IsAway suites number
away fixed task suites number is suite first there was =
    sym (ap known.is_opened (known_at suites number suite first there was))
    ∙ needs_what_is_unmet fixed.service (known_of suites) task.t task.caller task.ops (Know number)
    (needed_first (known_of suites) (known.exec_of fixed.service (known_of suites) task.t task.caller task.ops) (Know number) is)

-- a lock that is needed on a suite that had a Current is an exclusive one
pub exclusive_needed : (fixed : Fixed) (task : Task) (suites : Suites) (number : ℕ) (mode : LockMode) (suite : GatheredSuite) (first : ReadPoint)
    → heard_on fixed task suites ≡ exec.Need (Hold number mode) → suite_of suites number ≡ Some suite → suite.first ≡ Some first → mode ≡ Exclusive
exclusive_needed fixed task suites number mode suite first is there was =
    of suite.mode mode (sym (ap (known.is_held mode) (known_at suites number suite first there was))
    ∙ needs_what_is_unmet fixed.service (known_of suites) task.t task.caller task.ops (Hold number mode)
    (needed_first (known_of suites) (known.exec_of fixed.service (known_of suites) task.t task.caller task.ops) (Hold number mode) is))
  where
    of : (have want : LockMode) → serves have want ≡ false → want ≡ Exclusive
    of have want h2 = search arith

raised_keeps : (before : ℕ → ℕ) (fixed : Fixed) (task : Task) (cache : Cache) (suites : Suites) (number : ℕ) (mode : LockMode) (found : Option GatheredSuite) → suite_of suites number ≡ found → Keeps before suites
    → Keeps before (with_suite number (raised_or_new fixed task cache number mode found) suites)
raised_keeps before fixed task cache suites number mode (Some suite) there keeps = keeps_with before suites number (Some suite) (raised_or_new fixed task cache number mode (Some suite)) there (omega arith) keeps
raised_keeps before fixed task cache suites number mode None there keeps = keeps_with before suites number None (raised_or_new fixed task cache number mode None) there (omega arith) keeps

-- where a transaction comes to
abbrev AtStage : (ℕ → ℕ) → Suites → Stage → Type 0
AtStage before suites Executes = Keeps before suites
AtStage before suites (Widens left granted) = Keeps before suites
AtStage before suites (Asks phase) = InPhase before suites phase
AtStage before suites other = Bounded before

move_in : (before : ℕ → ℕ) (fixed : Fixed) (task : Task) {at next : Point} → Move fixed task at next → AtStage before at.suites at.stage → AtStage before next.suites next.stage
move_in before fixed task (opens {suites = suites} {number = number} {suite = suite} {content = content} needs there was free) keeps = keeps_with before suites number (Some suite) _ there (more_content suite content) keeps
move_in before fixed task (fetches' {suites = suites} {number = number} needs) keeps = (keeps, away fixed task suites number needs)
move_in before fixed task (gathers {cache = cache} {suites = suites} {number = number} {mode = mode} needs new more) keeps =
    subst (λ (suite : GatheredSuite). Keeps before (with_suite number suite suites)) new (raised_keeps before fixed task cache suites number mode (suite_of suites number) refl keeps)
move_in before fixed task (lacks_lock {suites = suites} needs new short) keeps = bounded_by before suites keeps
move_in before fixed task (refuses {suites = suites} needs) keeps = bounded_by before suites keeps
move_in before fixed task (grants done) keeps = keeps
move_in before fixed task (passes none) keeps = keeps
move_in before fixed task (widens {suites = suites} {number = number} {suite = suite} there is) keeps = keeps_with before suites number (Some suite) _ there (omega arith) keeps
move_in before fixed task (widens_by {suites = suites} {number = number} {suite = suite} there is) keeps = keeps_with before suites number (Some suite) _ there (omega arith) keeps
move_in before fixed task (lacks_wide {suites = suites} there is) keeps = bounded_by before suites keeps
move_in before fixed task (prepares {suites = suites}) keeps = bounded_by before suites keeps

ends_in : (before : ℕ → ℕ) (task : Task) (at : Point) (step : Step) → EndsIn task at.cache at.suites at.stage step → AtStage before at.suites at.stage → Leaves before step.after
ends_in before task at step ends in' = of at.stage ends in'
  where
    of : (stage : Stage) → EndsIn task at.cache at.suites stage step → AtStage before at.suites stage → Leaves before step.after
    of (Asks phase) ends in' = subst (λ (step : Step). Leaves before step.after) ends in'
    of (Prepares outcome) ends bounded = subst (λ (step : Step). Leaves before step.after) ends (l_prepare before task at.cache at.suites outcome (locked_at at.suites) bounded)
    of (PreparesAt servers outcome) ends bounded = subst (λ (step : Step). Leaves before step.after) ends (l_prepare before task at.cache at.suites outcome servers bounded)
    of (GivesUp cause) ends bounded = subst (λ (step : Step). Leaves before step.after) ends (l_give_up before task at.cache at.suites cause bounded)
    of (Tells v ending) ends bounded = subst (λ (step : Step). Leaves before step.after) ends (l_end before task at.cache at.suites v ending (locked_at at.suites) bounded)
    of (TellsAt servers v ending) ends bounded = subst (λ (step : Step). Leaves before step.after) ends (l_end before task at.cache at.suites v ending servers bounded)
    of Executes ends in' = absurd ends
    of (Widens left granted) ends in' = absurd ends

moves_in : (before : ℕ → ℕ) (fixed : Fixed) (task : Task) (at : Point) (step : Step) → MovesTo fixed task at step → AtStage before at.suites at.stage → Leaves before step.after
moves_in before fixed task at step moves in' =
    ends_in before task moves.end step moves.ends (kept fixed task (λ at. AtStage before at.suites at.stage) (λ at next move now. move_in before fixed task move now) moves.moves in')

l_execute : (before : ℕ → ℕ) (fixed : Fixed) (task : Task) (all : Gathered) → Keeps before all.suites → Leaves before (execute fixed task all).after
l_execute before fixed task all keeps = moves_in before fixed task (point Executes all.cache all.suites) (execute fixed task all) (execute_moves fixed task all) keeps

-- ---- one response

-- with what is asked now
abbrev plus : (ℕ → ℕ) → Request → ℕ → ℕ
plus before asked number = before number + one_if (fetches number asked)

none_more : (before : ℕ → ℕ) (asked : Request) (number : ℕ) → fetches number asked ≡ false → plus before asked number ≡ before number
none_more before asked number none = let same = ap one_if none in omega (arith, same)

keeps_quiet : (before : ℕ → ℕ) (asked : Request) (suites : Suites) → ((number : ℕ) → fetches number asked ≡ false) → Keeps before suites → Keeps (plus before asked) suites
keeps_quiet before asked suites none keeps number = let same = none_more before asked number (none number) in let bound = keeps number in omega (arith, same, bound)

asks_no_content : (task : Task) (number : ℕ) (found : Option GatheredSuite) (server : ℕ) (asked : Request) → asked_for task number found ≡ Some (server, asked) → (other : ℕ) → fetches other asked ≡ false
asks_no_content task number found server asked is other = asked_as (fetches other) false task number found server asked (λ mode. refl) refl is

-- a content that is fetched was not there
record IsFetch (task : Task) (suites : Suites) (number : ℕ) (asked : Request) : Type 0 where
  suite : GatheredSuite
  first : ReadPoint
  there : suite_of suites number ≡ Some suite
  was : suite.first ≡ Some first
  what : (other : ℕ) → fetches other asked ≡ (number == other)

is_fetch : (task : Task) (suites : Suites) (number : ℕ) (server : ℕ) (asked : Request) (found : Option GatheredSuite) → suite_of suites number ≡ found → fetched_for task number found ≡ Some (server, asked) → IsFetch task suites number asked
is_fetch task suites number server asked found h6 h7 = search arith

fetch_bounded : (before : ℕ → ℕ) (task : Task) (suites : Suites) (number : ℕ) (asked : Request) → IsFetch task suites number asked → Keeps before suites → IsAway suites number → Bounded (plus before asked)
fetch_bounded before task suites number asked fetch keeps away' other = search arith

fetch_keeps : (before : ℕ → ℕ) (task : Task) (suites : Suites) (number : ℕ) (asked : Request) (suite : GatheredSuite) (content : Content) → IsFetch task suites number asked → Keeps before suites → IsAway suites number
    → Keeps (plus before asked) (with_suite number (record suite { content = Some content }) suites)
fetch_keeps before task suites number asked suite content fetch keeps away' other =
    subst (λ found. plus before asked other ≤ content_in found) (sym (get-insert nat_cmp_total suites number _ other ∙ ap (λ b. cond b (Some (record suite { content = Some content })) (suite_of suites other)) (unsigned_tied number other)))
    (of (number == other) refl)
  where
    of : (b : Bool) → (number == other) ≡ b → before other + one_if (fetches other asked) ≤ content_in (cond b (Some (record suite { content = Some content })) (suite_of suites other))
    of b h1 = search (fetch_bounded, arith)

-- at most once, whatever is asked now
response_bounded : (before : ℕ → ℕ) (fixed : Fixed) (task : Task) (suites : Suites) (phase : Phase) (server : ℕ) (asked : Request) → InPhase before suites phase
    → request_in fixed task suites phase ≡ Some (server, asked) → Bounded (plus before asked)
response_bounded before fixed task suites phase server asked h7 h8 = search arith

module _ (before : ℕ → ℕ) (fixed : Fixed) (task : Task) (cache : Cache) (suites : Suites) (server : ℕ) (asked : Request) where
  -- the collector of a suite was told
  collected_in : {phase : Phase} {number : ℕ} {stage : Stage} (suite new : GatheredSuite) → Collects phase number stage → InPhase before suites phase
      → request_in fixed task suites phase ≡ Some (server, asked) → suite_of suites number ≡ Some suite
      → new.content ≡ suite.content → Keeps (plus before asked) (with_suite number new suites)
  collected_in {number = number} suite new collects in' is there same =
      let none = asks_no_content task number (suite_of suites number) server asked (sym (collects_asks fixed task suites collects) ∙ is) in
      keeps_with (plus before asked) suites number (Some suite) new there (subst (λ content. one_if (is_some suite.content) ≤ one_if (is_some content)) (sym same) (omega arith)) (keeps_quiet before asked suites none (of collects in'))
    where
      of : {phase : Phase} {stage : Stage} → Collects phase number stage → InPhase before suites phase → Keeps before suites
      of h0 h1 = search arith

  hears_in : {phase : Phase} {response : Response} {heard : Point} → Hears fixed task cache suites server asked phase response heard → InPhase before suites phase
      → request_in fixed task suites phase ≡ Some (server, asked) → AtStage (plus before asked) heard.suites heard.stage
  hears_in (asks_on {suite = suite} gathering there says next) in' is = collected_in suite _ gathering in' is there refl
  hears_in (asks_on {suite = suite} (widening {left = left} {granted = granted}) there says next) in' is = collected_in suite _ (widening {left = left} {granted = granted}) in' is there refl
  hears_in (settles {suite = suite} gathering there says next) in' is = collected_in suite _ gathering in' is there refl
  hears_in (settles {suite = suite} (widening {left = left} {granted = granted}) there says next) in' is = collected_in suite _ (widening {left = left} {granted = granted}) in' is there refl
  hears_in (gets {number = number} {suite = suite} {content = content} there was gave) in' is =
      fetch_keeps before task suites number asked suite content (is_fetch task suites number server asked (suite_of suites number) refl is) in'.0 in'.1
  hears_in {phase = phase} _ in' is = response_bounded before fixed task suites phase server asked in' is

l_response : (before : ℕ → ℕ) (fixed : Fixed) (task : Task) (cache : Cache) (suites : Suites) (phase : Phase) (server : ℕ) (asked : Request) (response : Response)
    → InPhase before suites phase → request_in fixed task suites phase ≡ Some (server, asked)
    → Leaves (plus before asked) (after_response fixed (record { task = task; suites = suites; phase = phase }) cache server asked response).after
l_response before fixed task cache suites phase server asked response in' is = search (response_moves fixed task cache suites server asked phase response, moves_in, hears_in, arith)

-- ---- all responses

abbrev InDoing : (ℕ → ℕ) → Option Doing → Type 0
InDoing before (Some (Running txn_run)) = InPhase before txn_run.suites txn_run.phase
InDoing before (Some (RunningSweep sweep_run)) = ⊥
InDoing before None = Bounded before

in_left : (before : ℕ → ℕ) (after : After TransactionRun) → Leaves before after → InDoing before (agents.left Running after)
in_left before after h2 = search arith

in_bounded : (before : ℕ → ℕ) (doing : Option Doing) → InDoing before doing → Bounded before
in_bounded before doing h2 = search arith

-- a transaction that was asked nothing, or one thing more
take_in_bounds : (before : ℕ → ℕ) (fixed : Fixed) (agent : Agent) (response : Response) (doing : Option Doing) (asked : Option (ℕ × Request)) → agent.doing ≡ doing → next_in fixed doing ≡ asked → InDoing before doing
    → (after : ℕ → ℕ) × InDoing after (take_in fixed agent response doing asked).agent.doing × ((number : ℕ) → after number ≡ before number + fetched_in number (exchange_of asked response))
take_in_bounds before fixed agent response (Some (Running running)) (Some asked) was is in' = (
  plus before asked.1,
  in_left (plus before asked.1) _ (l_response before fixed running.task agent.cache running.suites running.phase asked.0 asked.1 response in' is),
  λ number. omega arith,
)
take_in_bounds before fixed agent response (Some (Running running)) None was is in' = (before, subst (InDoing before) (sym was) in', λ number. omega arith)
take_in_bounds before fixed agent response (Some (RunningSweep sweep_run)) asked was is in' = absurd in'
take_in_bounds before fixed agent response None (Some asked) was is in' = cc
take_in_bounds before fixed agent response None None was is in' = (before, subst (InDoing before) (sym was) in', λ number. omega arith)

fetched-append : (number : ℕ) (past later : List Exchange) → fetched_in number (past ++ later) ≡ fetched_in number past + fetched_in number later
fetched-append number [] later = omega arith
fetched-append number (one ∷ past) later = let rest = fetched-append number past later in omega (arith, rest)

all_bounded : (before : ℕ → ℕ) (fixed : Fixed) (agent : Agent) (events : List Event) (number : ℕ) → InDoing before agent.doing → before number + fetched_in number (exchanges fixed agent events) ≤ 1
all_bounded before fixed agent [] number in' = let bound = in_bounded before agent.doing in' number in omega (arith, bound)
all_bounded before fixed agent (Forget site ∷ events) number in' = all_bounded before fixed (forget agent site) events number in'
all_bounded before fixed agent (Take response ∷ events) number in' =
    let one = take_in_bounds before fixed agent response agent.doing (next_of fixed agent) refl refl in' in
    let same = one.2 number in
    let rest = all_bounded one.0 fixed (take fixed agent response).agent events number one.1 in
    let sum = fetched-append number (exchange_of (next_of fixed agent) response) (exchanges fixed (take fixed agent response).agent events) in
    omega (arith, same, rest, sum)

begin_in : (fixed : Fixed) (agent : Agent) (caller : Identity) (site : ℕ) (ops : List Op) → is_idle agent.doing ≡ true → InDoing (λ number. 0) (begin fixed agent (Transaction caller site ops)).doing
begin_in fixed agent caller site ops idle =
    elim (is_idle agent.doing && has_sense fixed (Transaction caller site ops) && nat_lt agent.count max_jobs) as
    (λ b. InDoing (λ number. 0) (cond b (record (started fixed agent (Transaction caller site ops)) { count = agent.count + 1 }) agent).doing) [
      | true ↦ in_left (λ number. 0) _ (l_execute (λ number. 0) fixed (record { t = 64 * agent.count + agent.index; caller = caller; site = site; ops = ops }) (record { suites = []; cache = agent.cache }) (λ number. omega arith))
      | false ↦ at agent.doing idle
    ]
  where
    at : (doing : Option Doing) → is_idle doing ≡ true → InDoing (λ number. 0) doing
    at doing h1 = search arith

pub fetches_are_few : (fixed : Fixed) (agent : Agent) (caller : Identity) (site : ℕ) (ops : List Op) (events : List Event) (number : ℕ) → is_idle agent.doing ≡ true
    → fetched_in number (of_job fixed agent (Transaction caller site ops) events) ≤ 1
fetches_are_few fixed agent caller site ops events number idle =
    let all = all_bounded (λ number. 0) fixed (begin fixed agent (Transaction caller site ops)) events number (begin_in fixed agent caller site ops idle) in omega (arith, all)
