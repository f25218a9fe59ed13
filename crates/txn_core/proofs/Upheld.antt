-- What stands after every event of a job.
use Rattle.txn_core.proofs.Vocabulary.{◌≡◌, ℕ, Bool, true, inl, inr, List, [], ◌∷◌, ◌++◌, Option, Some, None, refl, sym, ap, subst, ◌∙◌, ◌+◌, ◌&&◌, nat_lt, append-nil, append_assoc, none-some, Identity, Op, Content, arith, Prefix, Request, Cache}
use Rattle.txn_core.proofs.Vocabulary.{ReadPoint, GatheredSuite, Suites, suite_of, Response, Cause, Ending, Unavailable, Busy, Job, Transaction, Sweep, Fixed, Task, Phase, Gathering, Fetching, Widening, Finishing, TransactionRun, SweepRun, Doing}
use Rattle.txn_core.proofs.Vocabulary.{Running, RunningSweep, After, GoesOn, Ends, Step, Gathered, start_from, execute, after_response, request_in, request_of, Agent, Event, Take, Forget, next_in, next_of, left, take_in, take, begin, started, forget}
use Rattle.txn_core.proofs.Vocabulary.{is_idle, has_sense, max_jobs, after_event, after_all, Exchange, exchange_of, exchanges, of_job, told_of, locks, task_of, asks_for, IsStart}
use Rattle.txn_core.specs.Sweeps as sweep
use Rattle.txn_core.proofs.ToldLists.{are_nil, asks_lock}
use Rattle.txn_core.proofs.Gathers.{self, Base, Follows, knows_map, wants_map, sets_map, grants_map, Kept}
use Rattle.txn_core.proofs.Contents.{FreeIn, free_before, Content_of, content_more, free_now, given_now}
use Rattle.txn_core.proofs.Causes.{push, ShortBy, CausedBy, EndIs, StandsOn, started_from, Stands, Fresh, OrFresh, LeftOf, Leaves}
use Rattle.txn_core.proofs.CausedSteps.{caused_execute, caused_response}

-- ---- events

pub after-append : (fixed : Fixed) (agent : Agent) (events : List Event) (event : Event) → after_all fixed agent (events ++ event ∷ []) ≡ after_event fixed (after_all fixed agent events) event
after-append fixed agent [] event = refl
after-append fixed agent (first ∷ events) event = after-append fixed (after_event fixed agent first) events event

pub exchanges-take : (fixed : Fixed) (agent : Agent) (events : List Event) (response : Response)
    → exchanges fixed agent (events ++ Take response ∷ []) ≡ exchanges fixed agent events ++ exchange_of (next_of fixed (after_all fixed agent events)) response
exchanges-take fixed agent [] response = append-nil (exchange_of (next_of fixed agent) response)
exchanges-take fixed agent (Forget site ∷ events) response = exchanges-take fixed (forget agent site) events response
exchanges-take fixed agent (Take first ∷ events) response =
    let one = exchange_of (next_of fixed agent) first in
    let after = (take fixed agent first).agent in
    ap (λ later. one ++ later) (exchanges-take fixed after events response)
    ∙ sym (append_assoc one (exchanges fixed after events) (exchange_of (next_of fixed (after_all fixed after events)) response))

pub exchanges-forget : (fixed : Fixed) (agent : Agent) (events : List Event) (site : ℕ) → exchanges fixed agent (events ++ Forget site ∷ []) ≡ exchanges fixed agent events
exchanges-forget fixed agent [] site = refl
exchanges-forget fixed agent (Forget first ∷ events) site = exchanges-forget fixed (forget agent first) events site
exchanges-forget fixed agent (Take first ∷ events) site = ap (λ later. exchange_of (next_of fixed agent) first ++ later) (exchanges-forget fixed (take fixed agent first).agent events site)

-- ---- from where a suite was gathered

-- at some moment at which nothing was told of it
pub record Begins (fixed : Fixed) (agent : Agent) (job : Job) (events : List Event) (suite : ℕ) (start : Prefix) : Type 0 where
  pub caller : Identity
  pub site : ℕ
  pub ops : List Op
  pub transaction : job ≡ Transaction caller site ops
  pub before : List Event
  pub later : List Event
  pub parts : events ≡ before ++ later
  pub untold : told_of suite [] (of_job fixed agent job before) ≡ []
  pub from : start ≡ start_from fixed (task_of agent caller site ops) (after_all fixed (begin fixed agent job) before).cache suite

-- and at which it was to be asked for
pub record Started (fixed : Fixed) (agent : Agent) (job : Job) (events : List Event) (suite : ℕ) (start : Prefix) : Type 0 where
  pub begins : Begins fixed agent job events suite start
  pub asks : asks_for suite (next_of fixed (after_all fixed (begin fixed agent job) begins.before)) ≡ true

module _ (fixed : Fixed) (agent : Agent) (job : Job) (events more : List Event) (suite : ℕ) (start : Prefix) where
  pub begins_more : Begins fixed agent job events suite start → Begins fixed agent job (events ++ more) suite start
  begins_more begins = search (append_assoc, arith)

  pub started_more : Started fixed agent job events suite start → Started fixed agent job (events ++ more) suite start
  unfolding begins_more
  started_more was = record { begins = begins_more was.begins; asks = was.asks }

unfoldable pub started_is : (fixed : Fixed) (agent : Agent) (job : Job) (events : List Event) (n : ℕ) (start : Prefix) → Started fixed agent job events n start → IsStart fixed agent job events n start
started_is fixed agent job events n start started = record {
  caller = started.begins.caller;
  site = started.begins.site;
  ops = started.begins.ops;
  transaction = started.begins.transaction;
  before = started.begins.before;
  later = started.begins.later;
  parts = started.begins.parts;
  untold = started.begins.untold;
  moment = inl started.asks;
  from = started.begins.from;
}

-- what is so of the suites of a transaction: of their starts after some events, of their contents after some more
abbrev pub Base_of : Fixed → Agent → Job → (begun events : List Event) → ℕ → Base
Base_of fixed agent job begun events site = record { start = Started fixed agent job begun; content = Content_of fixed agent job events site }

-- ---- the same of other starts and contents

module _ (fixed : Fixed) (task : Task) (Old : Base) (Loose : ℕ → Prefix → Type 0) (Old' : Base) (Loose' : ℕ → Prefix → Type 0) (past : List Exchange) (old : Follows Old Old')
    (loose : (n : ℕ) (start : Prefix) → Loose n start → Loose' n start) where
  map_kept : (n : ℕ) (suite : GatheredSuite) → Kept fixed task Old past n suite → Kept fixed task Old' past n suite
  map_kept n suite kept = search (knows_map, sets_map, wants_map, arith)

  map_short : (suite had wanting : ℕ) (busy : Option (ℕ × ℕ)) → ShortBy fixed task Old Loose past suite had wanting busy → ShortBy fixed task Old' Loose' past suite had wanting busy
  map_short suite had wanting busy by = search (sets_map, wants_map, arith)

  pub map_cause : (cause : Cause) → CausedBy fixed task Old Loose past cause → CausedBy fixed task Old' Loose' past cause
  map_cause (Unavailable suite had wanting) is = map_short suite had wanting None is
  map_cause (Busy at holder) is = (is.0, is.1, is.2, map_short is.0 is.1 is.2 (Some (at, holder)) is.3)
  map_cause _ is = is

  map_end : (ending : Ending) → EndIs fixed task Old Loose past ending → EndIs fixed task Old' Loose' past ending
  map_end ending h1 = search (map_cause, arith)

  pub map_stands : (Now : ℕ → Prefix → Type 0) (suites : Suites) (phase : Phase) → ((n : ℕ) (start : Prefix) → phase ≡ Gathering n → Now n start → Old'.start n start)
      → StandsOn fixed task Old Now Loose past suites phase → StandsOn fixed task Old' Old'.start Loose' past suites phase
  map_stands Now suites (Gathering number) now stands = (
    stands.0,
    λ n suite other at. map_kept n suite (stands.1 n suite other at),
    λ suite at.
        let asking = stands.2 suite at in
        record {
          start = now number suite.collector.start refl asking.start;
          first = asking.first;
          content = knows_map Old.content Old'.content number suite old.content asking.content;
          wide = λ w is. sets_map fixed task Old Old' past old number w.votes (asking.wide w is);
          wanted = wants_map fixed task Old Old' past old number suite.collector.mode asking.wanted;
        },
  )
  map_stands Now suites (Fetching number) now stands = (stands.0, λ n suite at. map_kept n suite (stands.1 n suite at))
  map_stands Now suites (Widening left granted) now stands = (stands.0, λ n suite at. map_kept n suite (stands.1 n suite at), grants_map fixed task Old Old' past old granted.answers granted.changes stands.2, stands.3)
  map_stands Now suites (Finishing servers v ending) now stands = λ fine. map_end ending (stands fine)
  map_stands Now suites _ now stands = tt

-- where nothing is said of contents
no_contents : (fixed : Fixed) (task : Task) (Old : Base) (Loose : ℕ → Prefix → Type 0) (past : List Exchange) (suites : Suites) (phase : Phase)
    → StandsOn fixed task Old Old.start Loose past suites phase → Stands fixed task Old.start Old.start Loose past suites phase
no_contents fixed task Old Loose past suites phase stands =
    map_stands fixed task Old Loose (started_from Old.start) Loose past (record { start = λ n start is. is; content = λ n first content is. tt }) (λ n start is. is) Old.start suites phase (λ n start _ is. is) stands

-- ---- what a begin leaves

-- no suite was gathered
abbrev none_yet : (ℕ → ReadPoint → Content → Type 0) → Base
none_yet C = record { start = λ _ _. ⊥; content = C }

none_kept : (C : ℕ → ReadPoint → Content → Type 0) (fixed : Fixed) (task : Task) (n : ℕ) (suite : GatheredSuite) → suite_of [] n ≡ Some suite → Kept fixed task (none_yet C) [] n suite
none_kept C fixed task n suite there = absurd (none-some suite there)

begin_leaves : (C : ℕ → ReadPoint → Content → Type 0) (fixed : Fixed) (task : Task) (cache : Cache) → FreeIn C task cache → Leaves fixed task (none_yet C) (λ _ _. ⊥) [] (execute fixed task (record { suites = []; cache = cache }))
begin_leaves C fixed task cache free = caused_execute fixed task (none_yet C) (λ _ _. ⊥) [] (record { suites = []; cache = cache }) free are_nil (none_kept C fixed task)

-- ---- after each event

module _ (fixed : Fixed) (agent : Agent) (job : Job) where
  abbrev pub After_all : List Event → Agent
  After_all events = after_all fixed (begin fixed agent job) events

  -- what stands of a transaction that asks on
  pub record Runs (events : List Event) (txn_run : TransactionRun) : Type 0 where
    pub caller : Identity
    pub site : ℕ
    pub ops : List Op
    pub transaction : job ≡ Transaction caller site ops
    pub task : txn_run.task ≡ task_of agent caller site ops
    pub stands_on : (asked : ℕ × Request) → request_of fixed txn_run ≡ Some asked
        → StandsOn fixed txn_run.task (Base_of fixed agent job events events txn_run.task.site) (Started fixed agent job events) (Begins fixed agent job events) (of_job fixed agent job events) txn_run.suites txn_run.phase
    pub stands : (asked : ℕ × Request) → request_of fixed txn_run ≡ Some asked
        → Stands fixed txn_run.task (Started fixed agent job events) (Started fixed agent job events) (Begins fixed agent job events) (of_job fixed agent job events) txn_run.suites txn_run.phase

  runs_of : (events : List Event) (txn_run : TransactionRun) (caller : Identity) (site : ℕ) (ops : List Op) → job ≡ Transaction caller site ops → txn_run.task ≡ task_of agent caller site ops
      → ((asked : ℕ × Request) → request_of fixed txn_run ≡ Some asked
      → StandsOn fixed txn_run.task (Base_of fixed agent job events events txn_run.task.site) (Started fixed agent job events) (Begins fixed agent job events)
      (of_job fixed agent job events) txn_run.suites txn_run.phase) → Runs events txn_run
  runs_of events txn_run caller site ops transaction task stands_on = record {
    caller = caller;
    site = site;
    ops = ops;
    transaction = transaction;
    task = task;
    stands_on = stands_on;
    stands = λ asked is. no_contents fixed txn_run.task (Base_of fixed agent job events events txn_run.task.site) (Begins fixed agent job events) (of_job fixed agent job events) txn_run.suites txn_run.phase (stands_on asked is);
  }

  abbrev pub DoingStands : List Event → Option Doing → Type 0
  DoingStands events (Some (Running txn_run)) = Runs events txn_run
  DoingStands events (Some (RunningSweep sweep_run)) = job ≡ Sweep sweep_run.server
  DoingStands events None = Unit {0}

  module _ (caller : Identity) (site : ℕ) (ops : List Op) (transaction : job ≡ Transaction caller site ops) (task : Task) (task_is : task ≡ task_of agent caller site ops) (px : List Exchange) (cache : Cache) (events : List Event)
      (told : of_job fixed agent job events ≡ px) (cache_is : (After_all events).cache ≡ cache) where
    pub fresh_begins : (n : ℕ) (start : Prefix) → Fresh fixed task cache px n start → Begins fixed agent job events n start
    fresh_begins n start fresh = search (append-nil, arith)

    convert : (Old : Base) (Loose : ℕ → Prefix → Type 0) (after : After TransactionRun) → (After_all events).doing ≡ left Running after → ((n : ℕ) (start : Prefix) → Old.start n start → Started fixed agent job events n start)
        → ((n : ℕ) (first : ReadPoint) (content : Content) → Old.content n first content → Content_of fixed agent job events task.site n first content)
        → ((n : ℕ) (start : Prefix) → Loose n start → Begins fixed agent job events n start) → LeftOf fixed task Old Loose px cache after → DoingStands events (left Running after)
    unfolding fresh_begins
    convert Old Loose (Ends ending) doing old contents loose leaves = tt
    convert Old Loose (GoesOn txn_run) doing old contents loose leaves = runs_of events txn_run caller site ops transaction (leaves.0 ∙ task_is) (λ asked is.
        let now : (n : ℕ) (start : Prefix) → txn_run.phase ≡ Gathering n → OrFresh fixed task cache px Old.start n start → Started fixed agent job events n start = λ n start phase begun. elim begun [
          | inl was ↦ old n start was
          | inr fresh ↦
              let asks : locks n asked.1 ≡ true = asks_lock txn_run.task n (suite_of txn_run.suites n) asked.0 asked.1 (ap (request_in fixed txn_run.task txn_run.suites) (sym phase) ∙ is) n ∙ self n in
              record { begins = fresh_begins n start fresh; asks = ap (λ doing. asks_for n (next_in fixed doing)) doing ∙ ap (asks_for n) is ∙ asks }
        ] in
        let also : (n : ℕ) (start : Prefix) → OrFresh fixed task cache px Loose n start → Begins fixed agent job events n start = λ n start begun. elim begun [
          | inl was ↦ loose n start was
          | inr fresh ↦ fresh_begins n start fresh
        ] in
        let base = Base_of fixed agent job events events task.site in
        let mapped = map_stands fixed task Old (OrFresh fixed task cache px Loose) base (Begins fixed agent job events) px (record { start = old; content = contents }) also
        (OrFresh fixed task cache px Old.start) txn_run.suites txn_run.phase now leaves.1 in
        subst (λ past. StandsOn fixed txn_run.task (Base_of fixed agent job events events txn_run.task.site) (Started fixed agent job events) (Begins fixed agent job events) past txn_run.suites txn_run.phase) (sym told)
        (subst (λ (task : Task). StandsOn fixed task (Base_of fixed agent job events events task.site) (Started fixed agent job events) (Begins fixed agent job events) px txn_run.suites txn_run.phase) (sym leaves.0) mapped))

  round_stands : (events : List Event) (sweep_run : SweepRun) (server : ℕ) (response : Response) → job ≡ Sweep sweep_run.server → DoingStands events (left RunningSweep (sweep.after_response fixed.service sweep_run server response))
  round_stands events sweep_run server response h4 = search arith

  -- what a response leaves of a transaction
  pub response_leaves : (events : List Event) (response : Response) (running : TransactionRun) (asked : ℕ × Request) → request_of fixed running ≡ Some asked
      → of_job fixed agent job (events ++ Take response ∷ []) ≡ push (of_job fixed agent job events) asked.0 asked.1 response
      → (After_all (events ++ Take response ∷ [])).cache ≡ (after_response fixed running (After_all events).cache asked.0 asked.1 response).cache → Runs events running
      → Leaves fixed running.task (Base_of fixed agent job events (events ++ Take response ∷ []) running.task.site) (Begins fixed agent job events)
      (push (of_job fixed agent job events) asked.0 asked.1 response) (after_response fixed running (After_all events).cache asked.0 asked.1 response)
  response_leaves events response running asked is told cache_is runs =
      let more = events ++ Take response ∷ [] in
      let task = running.task in
      let base = Base_of fixed agent job events more task.site in
      let goes_on = content_more fixed agent job events (Take response) (record { server = asked.0; request = asked.1; response = response } ∷ []) told task.site in
      let mapped = map_stands fixed task (Base_of fixed agent job events events task.site) (Begins fixed agent job events) base (Begins fixed agent job events)
      (of_job fixed agent job events) (record { start = λ n start is. is; content = goes_on }) (λ n start is. is)
      (Started fixed agent job events) running.suites running.phase (λ n start _ is. is) (runs.stands_on asked is) in
      caused_response fixed task base (Begins fixed agent job events) (of_job fixed agent job events) (After_all events).cache running.suites running.phase asked.0 asked.1 response is mapped
      (λ n first content found. goes_on n first content (free_now fixed agent job events task (After_all events).cache refl n first content found))
      (given_now fixed agent job events more task asked.0 asked.1 response told)
      (free_now fixed agent job more task (after_response fixed running (After_all events).cache asked.0 asked.1 response).cache cache_is)

  stands_take : (events : List Event) (response : Response) (doing : Option Doing) (asked : Option (ℕ × Request)) → (After_all events).doing ≡ doing → next_in fixed doing ≡ asked
      → of_job fixed agent job (events ++ Take response ∷ []) ≡ of_job fixed agent job events ++ exchange_of asked response → After_all (events ++ Take response ∷ []) ≡ (take_in fixed (After_all events) response doing asked).agent
      → DoingStands events doing → DoingStands (events ++ Take response ∷ []) (take_in fixed (After_all events) response doing asked).agent.doing
  stands_take events response (Some (Running running)) (Some asked) was is told after stands =
      let step = after_response fixed running (After_all events).cache asked.0 asked.1 response in
      convert stands.caller stands.site stands.ops stands.transaction running.task stands.task (push (of_job fixed agent job events) asked.0 asked.1 response) step.cache
      (events ++ Take response ∷ []) told (ap (λ (agent : Agent). agent.cache) after)
      (Base_of fixed agent job events (events ++ Take response ∷ []) running.task.site) (Begins fixed agent job events) step.after (ap (λ (agent : Agent). agent.doing) after)
      (started_more fixed agent job events (Take response ∷ [])) (λ n first content is. is) (begins_more fixed agent job events (Take response ∷ []))
      (response_leaves events response running asked is told (ap (λ (agent : Agent). agent.cache) after) stands)
  stands_take events response (Some (Running running)) None was is told after stands = search arith
  stands_take events response (Some (RunningSweep sweep_run)) (Some asked) was is told after stands = round_stands (events ++ Take response ∷ []) sweep_run asked.0 response stands
  stands_take events response (Some (RunningSweep sweep_run)) None was is told after stands = cc
  stands_take events response None (Some asked) was is told after stands = cc
  stands_take events response None None was is told after stands = subst (DoingStands (events ++ Take response ∷ [])) (sym was) tt

  stands_forget : (events : List Event) (site : ℕ) (doing : Option Doing) → DoingStands events doing → DoingStands (events ++ Forget site ∷ []) doing
  stands_forget events site (Some (Running running)) stands = runs_of (events ++ Forget site ∷ []) running stands.caller stands.site stands.ops stands.transaction stands.task (λ asked is.
      let more = events ++ Forget site ∷ [] in
      let same = exchanges-forget fixed (begin fixed agent job) events site in
      let goes_on = content_more fixed agent job events (Forget site) [] (same ∙ sym (append-nil (of_job fixed agent job events))) running.task.site in
      subst (λ past. StandsOn fixed running.task (Base_of fixed agent job more more running.task.site) (Started fixed agent job more) (Begins fixed agent job more) past running.suites running.phase) (sym same)
      (map_stands fixed running.task (Base_of fixed agent job events events running.task.site) (Begins fixed agent job events)
      (Base_of fixed agent job more more running.task.site) (Begins fixed agent job more) (of_job fixed agent job events)
      (record { start = started_more fixed agent job events (Forget site ∷ []); content = goes_on }) (begins_more fixed agent job events (Forget site ∷ [])) (Started fixed agent job events) running.suites running.phase
      (λ n start _ started. started_more fixed agent job events (Forget site ∷ []) n start started) (stands.stands_on asked is)))
  stands_forget events site (Some (RunningSweep sweep_run)) stands = stands
  stands_forget events site None stands = tt

  stands_more : (events : List Event) (event : Event) → DoingStands events (After_all events).doing → DoingStands (events ++ event ∷ []) (After_all (events ++ event ∷ [])).doing
  stands_more events event h2 = search (after-append, stands_take, exchanges-take, stands_forget, arith)

  all_stand : (events more : List Event) → DoingStands events (After_all events).doing → DoingStands (events ++ more) (After_all (events ++ more)).doing
  all_stand events [] stands = subst (λ events. DoingStands events (After_all events).doing) (sym (append-nil events)) stands
  all_stand events (event ∷ more) stands = search (append_assoc, stands_more, all_stand (events ++ event ∷ []) more, arith)

  first_stands : (caller : Identity) (site : ℕ) (ops : List Op) → job ≡ Transaction caller site ops → (task : Task) → task ≡ task_of agent caller site ops → (step : Step)
      → (After_all []).cache ≡ step.cache → (After_all []).doing ≡ left Running step.after
      → Leaves fixed task (none_yet (Content_of fixed agent job [] task.site)) (λ _ _. ⊥) [] step → DoingStands [] (left Running step.after)
  first_stands caller site ops same task task_is step cache doing leaves =
      convert caller site ops same task task_is [] step.cache [] refl cache (none_yet (Content_of fixed agent job [] task.site)) (λ _ _. ⊥) step.after doing
      (λ n start no. absurd no) (λ n first content is. is) (λ n start no. absurd no) leaves

  begin_stands : is_idle agent.doing ≡ true → DoingStands [] (begin fixed agent job).doing
  begin_stands idle = of (is_idle agent.doing && has_sense fixed job && nat_lt agent.count max_jobs) refl job refl
    where
      none : (doing : Option Doing) → is_idle doing ≡ true → DoingStands [] doing
      none doing h1 = search arith

      begun : (j : Job) → job ≡ j → begin fixed agent job ≡ record (started fixed agent j) { count = agent.count + 1 } → DoingStands [] (started fixed agent j).doing
      begun (Sweep server) same is = same
      begun (Transaction caller site ops) same is =
          let task = task_of agent caller site ops in
          let all : Gathered = record { suites = []; cache = agent.cache } in
          let C = Content_of fixed agent job [] site in
          let free = free_before C fixed task all (free_now fixed agent job [] task (execute fixed task all).cache (ap (λ (agent : Agent). agent.cache) is)) in
          first_stands caller site ops same task refl (execute fixed task all) (ap (λ (agent : Agent). agent.cache) is) (ap (λ (agent : Agent). agent.doing) is)
          (begin_leaves C fixed task agent.cache free)

      of : (b : Bool) → (is_idle agent.doing && has_sense fixed job && nat_lt agent.count max_jobs) ≡ b → (j : Job) → job ≡ j → DoingStands [] (begin fixed agent job).doing
      of b h1 j h3 = search (begun, none, arith)

  pub stands_after : (events : List Event) → is_idle agent.doing ≡ true → DoingStands events (After_all events).doing
  stands_after events idle = all_stand [] events (begin_stands idle)
