-- Which contents a transaction knows.
use Rattle.txn_core.proofs.Vocabulary.{◌≡◌, ℕ, ◌+◌, Bool, true, List, [], ◌∷◌, ◌++◌, Option, Some, None, refl, sym, ap, subst, ◌∙◌, ◌&&◌, nat_lt, same_Some, append-nil, append_assoc, Content, LockMode, Request, next, Cache, arith, ReadPoint}
use Rattle.txn_core.proofs.Vocabulary.{GatheredSuite, Suites, suite_of, with_suite, Response, Job, Transaction, Sweep, Fixed, Task, Phase, TransactionRun, SweepRun, Doing, Running, RunningSweep, After, GoesOn, Ends, Executes, Point, point, Move}
use Rattle.txn_core.proofs.Vocabulary.{opens, gathers, lacks_lock, widens, widens_by, lacks_wide, MovesTo, now_told, Hears, asks_on, falls_short, settles, gets, Step, Gathered, raised_or_new, execute, fetched_at, fetched_for, after_response}
use Rattle.txn_core.proofs.Vocabulary.{request_in, Agent, Event, Take, Forget, next_in, left, take_in, begin, started, is_idle, has_sense, max_jobs, after_all, exchange_of, of_job, task_of, KnowsContents}
use Rattle.rep_core.specs.declared.request.Request.TheVariants as request
use Rattle.txn_core.proofs.Moving.{kept, left_by, execute_moves, response_moves}
use Rattle.txn_core.specs.Sweeps as sweep
use Rattle.txn_core.proofs.Asks.{asks_same}
use Rattle.txn_core.proofs.Gathers.{Each, each_but, each_with, Knows, knows_settled}
use Rattle.txn_core.proofs.Cached.{given_is}
use Rattle.txn_core.proofs.Contents.{free_is, FreeIn, free_start, free_next, GivenIn, Content_of, content_more, free_now, given_now}
use Rattle.txn_core.proofs.Upheld.{after-append, exchanges-take, exchanges-forget}

-- ---- what is known of each suite

module _ (C : ℕ → ReadPoint → Content → Type 0) where
  module _ (task : Task) where
    -- what is left of a step
    abbrev pub KnowsAfter : After TransactionRun → Type 0
    KnowsAfter (GoesOn txn_run) = (txn_run.task ≡ task) × Each (Knows C) txn_run.suites
    KnowsAfter (Ends ending) = Unit {0}

    knows_raised : (fixed : Fixed) (cache : Cache) (number : ℕ) (mode : LockMode) (found : Option GatheredSuite)
        → ((suite : GatheredSuite) → found ≡ Some suite → Knows C number suite) → Knows C number (raised_or_new fixed task cache number mode found)
    knows_raised fixed cache number mode (Some suite) knows = knows suite refl
    knows_raised fixed cache number mode None knows = λ content is. cc

    knows_with : (suites : Suites) (number : ℕ) (suite : GatheredSuite) → Each (Knows C) suites → Knows C number suite → Each (Knows C) (with_suite number suite suites)
    knows_with suites number suite each knows = each_with (Knows C) number suites suite (each_but (Knows C) number suites each) knows

    move_knows : (fixed : Fixed) {at next : Point} → Move fixed task at next → FreeIn C task at.cache → Each (Knows C) at.suites → Each (Knows C) next.suites
    move_knows fixed (opens {cache = cache} {suites = suites} {number = number} {first = first} {content = content} needs there was free) found each =
        knows_with suites number _ each (λ other is. (first, was, subst (C number first) (same_Some content other is) (found number first content (free_is task cache number first content free))))
    move_knows fixed (gathers {cache = cache} {suites = suites} {number = number} {mode = mode} needs new more) found each =
        knows_with suites number _ each (subst (Knows C number) new (knows_raised fixed cache number mode (suite_of suites number) (each number)))
    move_knows fixed (lacks_lock {cache = cache} {suites = suites} {number = number} {mode = mode} needs new short) found each =
        knows_with suites number _ each (subst (Knows C number) new (knows_raised fixed cache number mode (suite_of suites number) (each number)))
    move_knows fixed (widens {suites = suites} {number = number} {suite = suite} there is) found each = knows_with suites number _ each (each number suite there)
    move_knows fixed (widens_by {suites = suites} {number = number} {suite = suite} there is) found each = knows_with suites number _ each (each number suite there)
    move_knows fixed (lacks_wide {suites = suites} {number = number} {suite = suite} there is) found each = knows_with suites number _ each (each number suite there)
    move_knows fixed _ found each = each

    moves_know : (fixed : Fixed) (at : Point) (step : Step) → MovesTo fixed task at step → FreeIn C task step.cache → Each (Knows C) at.suites → KnowsAfter step.after
    moves_know fixed at step moves free each =
        let end = kept fixed task (λ at. FreeIn C task at.cache × Each (Knows C) at.suites)
        (λ at next move now. (free_next C fixed task move now.0, move_knows fixed move now.0 now.1)) moves.moves (free_start C fixed task at step moves free, each) in
        left_by task (λ step. KnowsAfter step.after) moves.end step (λ phase. (refl, end.1)) (λ ending. tt) moves.ends

    pub knows_execute : (fixed : Fixed) (all : Gathered) → FreeIn C task (execute fixed task all).cache → Each (Knows C) all.suites → KnowsAfter (execute fixed task all).after
    knows_execute fixed all free each = moves_know fixed (point Executes all.cache all.suites) (execute fixed task all) (execute_moves fixed task all) free each

    -- ---- responses

    knows_hears : (fixed : Fixed) (cache : Cache) (suites : Suites) (server : ℕ) (asked : Request) {phase : Phase} {response : Response} {heard : Point} → Hears fixed task cache suites server asked phase response heard
        → request_in fixed task suites phase ≡ Some (server, asked) → Each (Knows C) suites → GivenIn C task server asked response → Each (Knows C) heard.suites
    knows_hears fixed cache suites server asked (asks_on {number = number} {suite = suite} collects there says next) is each given = knows_with suites number _ each (each number suite there)
    knows_hears fixed cache suites server asked (falls_short {number = number} {suite = suite} collects there says next) is each given = knows_with suites number _ each (each number suite there)
    knows_hears fixed cache suites server asked (settles {number = number} {suite = suite} {said = said} {prefix = prefix} {dver = dver} {members = members} collects there says next) is each given =
        knows_with suites number _ each (knows_settled C number (now_told server asked said suite) prefix dver members (each number suite there))
    knows_hears fixed cache suites server asked (gets {number = number} {first = first} {reply = reply} {content = content} there was gave) is each given =
        let said = given_is reply content gave in
        let is' : ◌≡◌ {A = Option (ℕ × Request)} (Some (first.source, request.Fetch task.t number)) (Some (server, asked)) = sym (ap (fetched_for task number) there ∙ ap (fetched_at task number) was) ∙ is in
        let at : server ≡ first.source = sym (ap (λ (pair : ℕ × Request). pair.0) (same_Some (first.source, request.Fetch task.t number) (server, asked) is')) in
        knows_with suites number _ each
        (λ other at'. (first, was, subst (C number first) (same_Some content other at') (given number first content said.0 at (sym (asks_same first.source server (request.Fetch task.t number) asked is')) said.1)))
    knows_hears fixed cache suites server asked _ is each given = each

    pub knows_response : (fixed : Fixed) (cache : Cache) (suites : Suites) (phase : Phase) (server : ℕ) (asked : Request) (response : Response)
        → request_in fixed task suites phase ≡ Some (server, asked) → Each (Knows C) suites → GivenIn C task server asked response
        → FreeIn C task (after_response fixed (record { task = task; suites = suites; phase = phase }) cache server asked response).cache
        → KnowsAfter (after_response fixed (record { task = task; suites = suites; phase = phase }) cache server asked response).after
    knows_response fixed cache suites phase server asked response is each given free =
        let moves = response_moves fixed task cache suites server asked phase response in moves_know fixed moves.heard _ moves.moves free (knows_hears fixed cache suites server asked moves.hears is each given)

-- ---- after each event

module _ (fixed : Fixed) (agent : Agent) (job : Job) where
  abbrev DoingKnows : List Event → Option Doing → Type 0
  DoingKnows events (Some (Running txn_run)) = Each (Knows (Content_of fixed agent job events txn_run.task.site)) txn_run.suites
  DoingKnows events (Some (RunningSweep sweep_run)) = Unit {0}
  DoingKnows events None = Unit {0}

  map_each : (C D : ℕ → ReadPoint → Content → Type 0) (suites : Suites) → ((number : ℕ) (first : ReadPoint) (content : Content) → C number first content → D number first content) → Each (Knows C) suites → Each (Knows D) suites
  map_each C D suites maps each number suite there content is = let was = each number suite there content is in (was.0, was.1, maps number was.0 content was.2)

  left_knows : (events : List Event) (task : Task) (after : After TransactionRun) → KnowsAfter (Content_of fixed agent job events task.site) task after → DoingKnows events (left Running after)
  left_knows events task (GoesOn txn_run) knows = subst (λ (other : Task). Each (Knows (Content_of fixed agent job events other.site)) txn_run.suites) (sym knows.0) knows.1
  left_knows events task (Ends ending) knows = tt

  round_knows : (events : List Event) (after : After SweepRun) → DoingKnows events (left RunningSweep after)
  round_knows events after = search arith

  knows_take : (events : List Event) (response : Response) (doing : Option Doing) (asked : Option (ℕ × Request)) → (after_all fixed (begin fixed agent job) events).doing ≡ doing → next_in fixed doing ≡ asked
      → of_job fixed agent job (events ++ Take response ∷ []) ≡ of_job fixed agent job events ++ exchange_of asked response
      → after_all fixed (begin fixed agent job) (events ++ Take response ∷ []) ≡ (take_in fixed (after_all fixed (begin fixed agent job) events) response doing asked).agent
      → DoingKnows events doing → DoingKnows (events ++ Take response ∷ []) (take_in fixed (after_all fixed (begin fixed agent job) events) response doing asked).agent.doing
  knows_take events response (Some (Running running)) (Some asked) was is told after knows =
      let step = after_response fixed running (after_all fixed (begin fixed agent job) events).cache asked.0 asked.1 response in
      let site = running.task.site in
      left_knows (events ++ Take response ∷ []) running.task step.after
      (knows_response (Content_of fixed agent job (events ++ Take response ∷ []) site) running.task fixed (after_all fixed (begin fixed agent job) events).cache running.suites running.phase asked.0 asked.1 response is
      (map_each (Content_of fixed agent job events site) (Content_of fixed agent job (events ++ Take response ∷ []) site) running.suites
      (content_more fixed agent job events (Take response) (exchange_of (Some asked) response) told site) knows)
      (given_now fixed agent job events (events ++ Take response ∷ []) running.task asked.0 asked.1 response told)
      (free_now fixed agent job (events ++ Take response ∷ []) running.task step.cache (ap (λ (agent : Agent). agent.cache) after)))
  knows_take events response (Some (Running running)) None was is told after knows =
      subst (DoingKnows (events ++ Take response ∷ [])) (sym was)
      (map_each (Content_of fixed agent job events running.task.site) (Content_of fixed agent job (events ++ Take response ∷ []) running.task.site) running.suites
      (content_more fixed agent job events (Take response) [] told running.task.site) knows)
  knows_take events response (Some (RunningSweep sweep_run)) (Some asked) was is told after knows = round_knows (events ++ Take response ∷ []) (sweep.after_response fixed.service sweep_run asked.0 response)
  knows_take events response (Some (RunningSweep sweep_run)) None was is told after knows = cc
  knows_take events response None (Some asked) was is told after knows = cc
  knows_take events response None None was is told after knows = subst (DoingKnows (events ++ Take response ∷ [])) (sym was) tt

  knows_forget : (events : List Event) (site : ℕ) (doing : Option Doing) → DoingKnows events doing → DoingKnows (events ++ Forget site ∷ []) doing
  knows_forget events site (Some (Running running)) knows =
      map_each (Content_of fixed agent job events running.task.site) (Content_of fixed agent job (events ++ Forget site ∷ []) running.task.site) running.suites
      (content_more fixed agent job events (Forget site) [] (exchanges-forget fixed (begin fixed agent job) events site ∙ sym (append-nil (of_job fixed agent job events))) running.task.site) knows
  knows_forget events site (Some (RunningSweep sweep_run)) knows = tt
  knows_forget events site None knows = tt

  knows_more : (events : List Event) (event : Event) → DoingKnows events (after_all fixed (begin fixed agent job) events).doing → DoingKnows (events ++ event ∷ []) (after_all fixed (begin fixed agent job) (events ++ event ∷ [])).doing
  knows_more events event h2 = search (after-append, knows_take, exchanges-take, knows_forget, arith)

  all_know : (events more : List Event) → DoingKnows events (after_all fixed (begin fixed agent job) events).doing → DoingKnows (events ++ more) (after_all fixed (begin fixed agent job) (events ++ more)).doing
  all_know events [] knows = subst (λ events. DoingKnows events (after_all fixed (begin fixed agent job) events).doing) (sym (append-nil events)) knows
  all_know events (event ∷ more) knows = search (append_assoc, knows_more, all_know (events ++ event ∷ []) more, arith)

  begin_knows : is_idle agent.doing ≡ true → DoingKnows [] (begin fixed agent job).doing
  begin_knows idle = of (is_idle agent.doing && has_sense fixed job && nat_lt agent.count max_jobs) refl job refl
    where
      none : (doing : Option Doing) → is_idle doing ≡ true → DoingKnows [] doing
      none doing h1 = search arith

      begun : (j : Job) → begin fixed agent job ≡ record (started fixed agent j) { count = agent.count + 1 } → DoingKnows [] (started fixed agent j).doing
      begun (Sweep server) is = tt
      begun (Transaction caller site ops) is =
          let task = task_of agent caller site ops in
          let step = execute fixed task (record { suites = []; cache = agent.cache }) in
          left_knows [] task step.after (knows_execute (Content_of fixed agent job [] site) task fixed (record { suites = []; cache = agent.cache })
          (free_now fixed agent job [] task step.cache (ap (λ (agent : Agent). agent.cache) is)) (λ number suite there. cc))

      of : (b : Bool) → (is_idle agent.doing && has_sense fixed job && nat_lt agent.count max_jobs) ≡ b → (j : Job) → job ≡ j → DoingKnows [] (begin fixed agent job).doing
      of b h1 j h3 = search (begun, none, arith)

pub knows_contents : KnowsContents
knows_contents fixed agent job events txn_run number suite content idle was there is =
    subst (DoingKnows fixed agent job events) was (all_know fixed agent job [] events (begin_knows fixed agent job idle)) number suite there content is
