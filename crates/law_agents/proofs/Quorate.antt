-- A transaction prepares on quorums: if all now prepared, it would have it decided, on just these suites.
use Rattle.law_agents.proofs.Vocabulary.{◌≡◌, ℕ, ◌+◌, true, false, cond, List, [], ◌∷◌, ◌++◌, Option, Some, None, refl, sym, ap, subst, ◌∙◌, nat_lt, ◌&&◌, false≢true, same_Some, is_prepared, Request, Verdict, Cache, GatheredSuite, Suites, suite_of}
use Rattle.law_agents.proofs.Vocabulary.{told_in, parts_at, Response, Replied, Lacked, Cause, Lost, Ending, Undecided, Job, Transaction, Sweep, home_of, Fixed, Task, Proposal, Phase, Gathering, Fetching, Widening, Preparing, Deciding, Finishing}
use Rattle.law_agents.proofs.Vocabulary.{TransactionRun, Sweeping, Listing, Resolving, Telling, Breaking, SweepRun, Doing, Running, RunningSweep, After, GoesOn, Ends, tell_end, give_up, prepare, locked_at, after_response, request_in, request_of}
use Rattle.law_agents.proofs.Vocabulary.{changes_of, decision_of, verdict_in, ending_by, cause_of_abort, lack_cause, Agent, Event, Take, Forget, next_in, take_in, take, begin, started, forget, is_idle, has_sense, max_jobs, after_all, Exchange}
use Rattle.law_agents.proofs.Vocabulary.{of_job, locks, is_prepare, task_of, IsReady, asks_same, asked_as, fetched_as, StandsOn, Base, Are, are_nil, Base_of, Started, Begins, DoingStands, stands_after, IsEarly}
use Rattle.rep_core.specs.declared.request.Part.{Part}
use Rattle.txn_core.proofs.Quorums.{decides_on_quorums}
use Rattle.law_agents.specs.Quorate.{IsWritten, PreparesOnQuorums}
use Rattle.rep_core.specs.declared.request.Request.TheVariants as request
use Rattle.rep_core.specs.declared.reply.Reply.TheVariants as reply
use Rattle.rep_core.specs.declared.reply.Verdict.TheVariants as verdict
use Rattle.txn_core.specs.Sweeps as sweep
use Rattle.txn_core.specs.Agents as agents
use Rattle.law_agents.proofs.Along.{always}
use Rattle.law_agents.proofs.Hearing.{tells, push, are_quiet, goes_on, goes_execute}

-- ---- what was told of the suites

abbrev PhaseAre : List Exchange → Suites → Phase → Type 0
PhaseAre past suites (Preparing left outcome) = Are (tells past) suites
PhaseAre past suites _ = Unit {0}

abbrev DoingAre : List Exchange → Option Doing → Type 0
DoingAre past (Some (Running running)) = PhaseAre past running.suites running.phase
DoingAre past other = Unit {0}

abbrev LeftAre : List Exchange → After TransactionRun → Type 0
LeftAre past after = DoingAre past (agents.left Running after)

end_are : (past : List Exchange) (task : Task) (cache : Cache) (suites : Suites) (v : Verdict) (ending : Ending) (servers : List ℕ) → LeftAre past (tell_end task cache suites v ending servers).after
end_are past task cache suites v ending [] = tt
end_are past task cache suites v ending (server ∷ servers) = tt

prepare_are : (past : List Exchange) (task : Task) (cache : Cache) (suites : Suites) (outcome : Proposal) (servers : List ℕ) → Are (tells past) suites → LeftAre past (prepare task cache suites outcome servers).after
prepare_are past task cache suites outcome [] are = tt
prepare_are past task cache suites outcome (server ∷ servers) are = are

early_are : (past : List Exchange) (task : Task) (suites : Suites) (phase : Phase) → IsEarly phase → Are (tells past) suites → LeftAre past (GoesOn (record { task = task; suites = suites; phase = phase }))
early_are past task suites (Preparing left outcome) is are = absurd is
early_are past task suites (Deciding outcome) is are = absurd is
early_are past task suites (Finishing servers v ending) is are = absurd is
early_are past task suites other is are = tt

given_up : (past : List Exchange) (task : Task) (cache : Cache) (suites : Suites) (cause : Cause) → Are (tells past) suites → LeftAre past (give_up task cache suites cause).after
given_up past task cache suites cause are = end_are past task cache suites verdict.Aborted (Undecided cause) (locked_at suites)

prepares : (past : List Exchange) (task : Task) (cache : Cache) (suites : Suites) (outcome : Proposal) → Are (tells past) suites → LeftAre past (prepare task cache suites outcome (locked_at suites)).after
prepares past task cache suites outcome are = prepare_are past task cache suites outcome (locked_at suites) are

module _ (fixed : Fixed) (task : Task) (past : List Exchange) (cache : Cache) (suites : Suites) (server : ℕ) (asked : Request) where
  abbrev Then : Phase → Response → Response → Type 0
  Then phase heard told = LeftAre (push past server asked heard) (after_response fixed (record { task = task; suites = suites; phase = phase }) cache server asked told).after

  prepared_are : (now : ℕ) (left : List ℕ) (outcome : Proposal) (heard told : Response) → Are (tells (push past server asked heard)) suites → Then (Preparing (now ∷ left) outcome) heard told
  prepared_are now left outcome heard (Lacked lacked) are = given_up (push past server asked heard) task cache suites (lack_cause server lacked) are
  prepared_are now left outcome heard (Replied said) are =
      elim (is_prepared said) as (λ b. LeftAre (push past server asked heard) (cond b (prepare task cache suites outcome left) (give_up task cache suites (Lost server))).after) [
        | true ↦ prepare_are (push past server asked heard) task cache suites outcome left are
        | false ↦ given_up (push past server asked heard) task cache suites (Lost server) are
      ]

  decided_are : (outcome : Proposal) (heard told : Response) → Then (Deciding outcome) heard told
  decided_are outcome heard (Lacked lacked) = end_are (push past server asked heard) task cache suites verdict.Aborted (Undecided (lack_cause server lacked)) (locked_at suites)
  decided_are outcome heard (Replied said) = end_are (push past server asked heard) task cache suites (verdict_in said verdict.Aborted) (ending_by (verdict_in said verdict.Aborted) (cause_of_abort said)) (locked_at suites)

  finished_are : (now : ℕ) (left : List ℕ) (v : Verdict) (ending : Ending) (heard told : Response) → Then (Finishing (now ∷ left) v ending) heard told
  finished_are now left v ending heard (Lacked lacked) = end_are (push past server asked heard) task cache suites v ending left
  finished_are now left v ending heard (Replied said) = end_are (push past server asked heard) task cache suites v ending left

  early_heard : (phase : Phase) (heard : Response) → IsEarly phase → Are (tells past) suites → request_in fixed task suites phase ≡ Some (server, asked) → Then phase heard heard
  early_heard phase heard is are asks =
      let px = push past server asked heard in
      goes_on task past server asked heard (LeftAre px) (early_are px task) (given_up px task) (prepares px task) fixed cache suites phase is are asks heard refl

  heard_are : (phase : Phase) (heard : Response) → (IsEarly phase → Are (tells past) suites) → PhaseAre past suites phase → request_in fixed task suites phase ≡ Some (server, asked) → Then phase heard heard
  heard_are (Gathering number) heard are so is = early_heard (Gathering number) heard tt (are tt) is
  heard_are (Fetching number) heard are so is = early_heard (Fetching number) heard tt (are tt) is
  heard_are (Widening left granted) heard are so is = early_heard (Widening left granted) heard tt (are tt) is
  heard_are (Preparing (now ∷ left) outcome) heard are so is =
      prepared_are now left outcome heard heard (are_quiet past suites server asked heard (λ other. ap (locks other) (sym (asks_same now server (request.Prepare task.t (parts_at suites (changes_of outcome) now)) asked is))) so)
  heard_are (Deciding outcome) heard are so is = decided_are outcome heard heard
  heard_are (Finishing (now ∷ left) v ending) heard are so is = finished_are now left v ending heard heard
  heard_are other heard are so is = cc

-- ---- after all events

module _ (fixed : Fixed) (agent : Agent) (job : Job) (idle : is_idle agent.doing ≡ true) where
  abbrev at : List Event → Agent
  at events = after_all fixed (begin fixed agent job) events

  abbrev past_of : List Event → List Exchange
  past_of events = of_job fixed agent job events

  are_of : (task : Task) (Old : Base) (Now Loose : ℕ → Rattle.suite_prefix.specs.declared.copies.Prefix.Prefix → Type 0) (past : List Exchange) (suites : Suites) (phase : Phase)
      → StandsOn fixed task Old Now Loose past suites phase → IsEarly phase → Are (tells past) suites
  are_of task Old Now Loose past suites (Preparing left outcome) stands is = absurd is
  are_of task Old Now Loose past suites (Deciding outcome) stands is = absurd is
  are_of task Old Now Loose past suites (Finishing servers v ending) stands is = absurd is
  are_of task Old Now Loose past suites other stands is = stands.0

  suites_are : (events : List Event) (running : TransactionRun) (asked : ℕ × Request) → (at events).doing ≡ Some (Running running) → request_of fixed running ≡ Some asked → IsEarly running.phase → Are (tells (past_of events)) running.suites
  suites_are events running asked was is =
      let runs = subst (DoingStands fixed agent job events) was (stands_after fixed agent job events idle) in
      are_of running.task (Base_of fixed agent job events events running.task.site) (Started fixed agent job events) (Begins fixed agent job events) (past_of events) running.suites running.phase (runs.stands_on asked is)

  sweep_are : (past : List Exchange) (after : After SweepRun) → DoingAre past (agents.left RunningSweep after)
  sweep_are past (GoesOn sweeping) = tt
  sweep_are past (Ends ending) = tt

  stays : (events : List Event) (heard : Response) (doing : Doing) (server : ℕ) (asked : Request) → (at events).doing ≡ Some doing → next_in fixed (Some doing) ≡ Some (server, asked) → DoingAre (past_of events) (Some doing)
      → DoingAre (push (past_of events) server asked heard) (take_in fixed (at events) heard (Some doing) (Some (server, asked))).agent.doing
  stays events heard (RunningSweep sweeping) server asked was is so = sweep_are (push (past_of events) server asked heard) (sweep.after_response fixed.service sweeping server heard)
  stays events heard (Running running) server asked was is so =
      heard_are fixed running.task (past_of events) (at events).cache running.suites server asked running.phase heard (suites_are events running (server, asked) was is) so is

  begins : DoingAre [] (begin fixed agent job).doing
  begins =
      elim (is_idle agent.doing && has_sense fixed job && nat_lt agent.count max_jobs) as (λ b. DoingAre [] (cond b (record (started fixed agent job) { count = agent.count + 1 }) agent).doing) [
        | true ↦ by job
        | false ↦ of agent.doing idle
      ]
    where
      of : (doing : Option Doing) → is_idle doing ≡ true → DoingAre [] doing
      of None idle = tt
      of (Some doing) idle = cc

      by : (job : Job) → DoingAre [] (started fixed agent job).doing
      by (Sweep server) = tt
      by (Transaction caller site ops) =
          let task = task_of agent caller site ops in
          goes_execute task [] (LeftAre []) (early_are [] task) (given_up [] task) (prepares [] task) fixed (record { suites = []; cache = agent.cache }) are_nil

  all_are : (events : List Event) → DoingAre (past_of events) (at events).doing
  all_are events = always fixed agent job DoingAre stays begins events

-- ---- if all now prepared

after_more : (fixed : Fixed) (agent : Agent) (before later : List Event) → after_all fixed agent (before ++ later) ≡ after_all fixed (after_all fixed agent before) later
after_more fixed agent [] later = refl
after_more fixed agent (Take heard ∷ before) later = after_more fixed (take fixed agent heard).agent before later
after_more fixed agent (Forget site ∷ before) later = after_more fixed (forget agent site) before later

abbrev prepares_yet : Task → Suites → Proposal → List ℕ → Option Doing
prepares_yet task suites outcome servers = Some (Running (record { task = task; suites = suites; phase = Preparing servers outcome }))

abbrev decides : Task → Suites → Proposal → Option Doing
decides task suites outcome = Some (Running (record { task = task; suites = suites; phase = Deciding outcome }))

if_all : (fixed : Fixed) (task : Task) (suites : Suites) (outcome : Proposal) (server : ℕ) (left : List ℕ) (agent : Agent) → agent.doing ≡ prepares_yet task suites outcome (server ∷ left)
    → (later : List Event) × ((after_all fixed agent later).doing ≡ decides task suites outcome)
if_all fixed task suites outcome server [] agent is =
    (Take (Replied reply.Prepared) ∷ [], ap (λ doing. (take_in fixed agent (Replied reply.Prepared) doing (next_in fixed doing)).agent.doing) is)
if_all fixed task suites outcome server (next ∷ left) agent is =
    let rest = if_all fixed task suites outcome next left (take fixed agent (Replied reply.Prepared)).agent
    (ap (λ doing. (take_in fixed agent (Replied reply.Prepared) doing (next_in fixed doing)).agent.doing) is) in
    (Take (Replied reply.Prepared) ∷ rest.0, rest.1)

-- ---- the law

module _ (fixed : Fixed) (agent : Agent) (job : Job) (events : List Event) (idle : is_idle agent.doing ≡ true) where
  abbrev past : List Exchange
  past = of_job fixed agent job events

  abbrev now : Agent
  now = after_all fixed (begin fixed agent job) events

  ready_then : (task : Task) (suites : Suites) (outcome : Proposal) (server : ℕ) (left : List ℕ) → now.doing ≡ prepares_yet task suites outcome (server ∷ left)
      → (number : ℕ) (suite : GatheredSuite) → suite_of suites number ≡ Some suite → IsReady suite number (changes_of outcome)
  ready_then task suites outcome server left was number suite there =
      let then' = if_all fixed task suites outcome server left now was in
      decides_on_quorums fixed agent job (events ++ then'.0) (record { task = task; suites = suites; phase = Deciding outcome }) outcome number suite idle
      (ap (λ (agent : Agent). agent.doing) (after_more fixed (begin fixed agent job) events then'.0) ∙ then'.1) refl there

  not_this : {P : Type 0} (a b : ℕ) (asked other : Request) → is_prepare asked ≡ false → ◌≡◌ {A = Option (ℕ × Request)} (Some (a, asked)) (Some (b, other)) → is_prepare other ≡ true → P
  not_this a b asked other none is kind = absurd (false≢true (sym none ∙ ap is_prepare (asks_same a b asked other is) ∙ kind))

  by_phase : (task : Task) (suites : Suites) (phase : Phase) (server t : ℕ) (parts : List Part) → now.doing ≡ Some (Running (record { task = task; suites = suites; phase = phase })) → PhaseAre past suites phase
      → request_in fixed task suites phase ≡ Some (server, request.Prepare t parts) → IsWritten past server parts
  by_phase task suites (Gathering number) server t parts was are is = absurd (false≢true (sym (asked_as is_prepare false task number (suite_of suites number) server (request.Prepare t parts) (λ mode. refl) refl is)))
  by_phase task suites (Fetching number) server t parts was are is = absurd (false≢true (sym (fetched_as is_prepare false task number (suite_of suites number) server (request.Prepare t parts) refl is)))
  by_phase task suites (Widening (number ∷ left) granted) server t parts was are is = absurd (false≢true (sym (asked_as is_prepare false task number (suite_of suites number) server (request.Prepare t parts) (λ mode. refl) refl is)))
  by_phase task suites (Preparing (who ∷ left) outcome) server t parts was are is =
      let here : who ≡ server = ap (λ (pair : ℕ × Request). pair.0) (same_Some (who, request.Prepare task.t (parts_at suites (changes_of outcome) who)) (server, request.Prepare t parts) is) in
      record {
        suites = suites;
        changes = changes_of outcome;
        parts_are = of_parts here (asks_same who server (request.Prepare task.t (parts_at suites (changes_of outcome) who)) (request.Prepare t parts) is);
        told = λ number suite there. ap told_in (sym there) ∙ are.1 number;
        ready = ready_then task suites outcome who left was;
      }
    where
      parts_of : Request → List Part
      parts_of (request.Prepare t parts) = parts
      parts_of _ = []

      of_parts : who ≡ server → request.Prepare task.t (parts_at suites (changes_of outcome) who) ≡ request.Prepare t parts → parts ≡ parts_at suites (changes_of outcome) server
      of_parts here same = ap parts_of (sym same) ∙ ap (parts_at suites (changes_of outcome)) here
  by_phase task suites (Deciding outcome) server t parts was are is = not_this (home_of fixed.service task.t) server (request.Decide task.t (decision_of task outcome)) (request.Prepare t parts) refl is refl
  by_phase task suites (Finishing (who ∷ left) v ending) server t parts was are is = not_this who server (request.Finish task.t v) (request.Prepare t parts) refl is refl
  by_phase task suites other server t parts was are is = cc

  by_sweep : (sweeping : SweepRun) (at : Sweeping) (server t : ℕ) (parts : List Part) → ◌≡◌ {A = Option (ℕ × Request)} (Some (sweep.asked_now fixed.service sweeping at)) (Some (server, request.Prepare t parts)) → IsWritten past server parts
  by_sweep sweeping Listing server t parts is = not_this _ server request.Locks (request.Prepare t parts) refl is refl
  by_sweep sweeping (Resolving other left) server t parts is = not_this _ server (request.Resolve other) (request.Prepare t parts) refl is refl
  by_sweep sweeping (Telling other v left) server t parts is = not_this _ server (request.Finish other v) (request.Prepare t parts) refl is refl
  by_sweep sweeping (Breaking held left) server t parts is = not_this _ server (request.Break held.t held.suite) (request.Prepare t parts) refl is refl

  by_doing : (server t : ℕ) (parts : List Part) (doing : Option Doing) → now.doing ≡ doing → DoingAre past doing → next_in fixed doing ≡ Some (server, request.Prepare t parts) → IsWritten past server parts
  by_doing server t parts None was are is = cc
  by_doing server t parts (Some (RunningSweep sweeping)) was are is = by_sweep sweeping sweeping.now server t parts is
  by_doing server t parts (Some (Running running)) was are is = by_phase running.task running.suites running.phase server t parts was are is

pub prepares_on_quorums : PreparesOnQuorums
prepares_on_quorums fixed agent job events server t parts idle is =
    by_doing fixed agent job events idle server t parts (after_all fixed (begin fixed agent job) events).doing refl (all_are fixed agent job idle events) is
