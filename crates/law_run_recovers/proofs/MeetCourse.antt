-- How a transaction stands in whose run nothing is decided, at each moment at which it is at work: servers are open to it that a sight says, as long as this fits what
-- it is told; and where its end is fixed some want of it is not met by these.
use Rattle.law_run_recovers.proofs.Vocabulary.{◌≡◌, ◌≢◌, ◌⊎◌, inl, inr, ⊎_elim, ℕ, Bool, true, false, cond, List, [], ◌∷◌, ◌++◌, append-nil, append_assoc, Option, Some, None, is_some, refl, sym, ap, subst, ◌∙◌, ◌*◌, ◌+◌, nat_cmp, eq-eqb, arith}
use Rattle.law_run_recovers.proofs.Vocabulary.{none-some, same_Some, IsOrdered, Identity, IsValid, Opening, Prefix, LockMode, Shared, Exclusive, Op, row_of, IsSoAt, Lock, Request, Reply, in_the_way, copy_of, State, record_of, reply_of, reply_up}
use Rattle.law_run_recovers.proofs.Vocabulary.{reply_down, locking_reply, recorded, verdict_of, Asked, request_for, mode_asked, Cache, forgotten, Ending, Undecided, Cause, Transaction, Replied, Suites, suite_of, known_of, Task, Phase, Gathering}
use Rattle.law_run_recovers.proofs.Vocabulary.{Fetching, Preparing, Deciding, Finishing, TransactionRun, Running, After, GoesOn, Ends, home_of, execute, given_in, decision_of, request_in, after_reply, Agent, Taken, fixed_of, is_idle, next_in}
use Rattle.law_run_recovers.proofs.Vocabulary.{next_of, left, with_step, take_in, take, begins, begin, started, exchanges, is_decide, said_by, asks_same, Keeps, nothing_held, plus_all, begin_keeps, after-append, Served, Event, Begin, Step, Actor}
use Rattle.law_run_recovers.proofs.Vocabulary.{World, server_at, actor_at, step, run, decisions, table_of, holds_of, service_stays, agent_of, WasPrefix, beginning, machine_of, CanBe, all_keep, IsMine, can_front, Finds, Stands, has_any, ◌==◌}
use Rattle.law_run_recovers.proofs.Vocabulary.{is_resolve, never_resolves, is_up, locks_asked, asks_for, first_mode, runs, world_after, or_right, given as gives, Answered as AnsweredVerdict}
use Rattle.txn_core.specs.Transactions.{Step as CourseStep}
use Rattle.file_ops.specs.Rows as rows
use Rattle.file_exec.specs.Known as known
use Rattle.rep_core.specs.declared.request.Request.TheVariants as request
use Rattle.rep_core.specs.declared.reply.Reply.TheVariants as reply
use Rattle.rep_core.specs.declared.reply.Verdict.TheVariants as verdict
use Rattle.txn_core.specs.Doing as doing
use Rattle.txn_core.specs.Agents as agents
use Rattle.txn_core.proofs.Locks as keeping
use Rattle.law_runs.proofs.Words as words
use Rattle.law_one_table.proofs.Effects as effects
use Rattle.law_run_recovers.proofs.Apart.{Apart, hint_forgotten}
use Rattle.law_run_recovers.proofs.Asked.{asked_exclusive, onto_so_far}
use Rattle.law_run_recovers.proofs.Asking.{onto}
use Rattle.law_run_recovers.proofs.AtWork.{stands_next, locks_stand}
use Rattle.law_run_recovers.proofs.Busy.{mine_taken}
use Rattle.law_run_recovers.proofs.Early.{early_asks, fetch_is}
use Rattle.law_run_recovers.proofs.Executes.{begin_stands}
use Rattle.law_run_recovers.proofs.Found.{Answering}
use Rattle.law_run_recovers.proofs.Heard.{LockRight, RightFor, reply_stands}
use Rattle.law_run_recovers.proofs.Keeps.{IsAtWork, at_work, at_work_before, run_at}
use Rattle.law_run_recovers.proofs.KnownIsTheTables.{unanswered, knows_table, unrecorded_on}
use Rattle.law_run_recovers.proofs.Led.{rules_of}
use Rattle.law_run_recovers.proofs.Open.{its_begin, number_is, begun_there}
use Rattle.law_run_recovers.proofs.Polled.{Sight, finds_at, Answers}
use Rattle.law_run_recovers.proofs.Stands.{Ground, asks_of, locks_on, AfterStands, StepStands, PhaseStands, EndsRight}
use Rattle.law_run_recovers.proofs.Still.{IsOpen, IsOpenPhase, open_next}
use Rattle.law_run_recovers.proofs.StepsServed.{OwnTook, own_took}
use Rattle.law_run_recovers.proofs.Unrobbed.{unrecorded_at, finds_then}
use Rattle.law_run_recovers.proofs.MeetQuiet.{GoesQuietly, next_is, parts, heard_first, first_untold, heard_at, idle_before}
use Rattle.law_run_recovers.proofs.MeetHeard.{AllTold, HeardNext, heard_next, told_running, told_none}
use Rattle.law_run_recovers.proofs.Picks.{along}

module _ (given : Opening) (base events later : List Event) (agent t : ℕ) (caller : Identity) (site : ℕ) (ops : List Op) (actor : Actor) (goes : GoesQuietly given base events later agent t caller site ops actor) where
  abbrev pub world_at : List Event → World
  world_at so_far = world_after given events agent caller site ops so_far

  abbrev pub its : Task
  its = record { t = 64 * actor.agent.count + actor.agent.index; caller = caller; site = site; ops = ops }

  abbrev pub asked : List (ℕ × LockMode)
  asked = asks_for given base t caller ops

  pub number : 64 * actor.agent.count + actor.agent.index ≡ t
  number = number_is given events later agent t caller site ops actor goes.can goes.there goes.begins

  -- what a sight takes: who held is open, who was busy is not
  abbrev pub Fits : (ℕ → LockMode → ℕ → Bool) → Type 0
  Fits opens =
      (so_far rest : List Event) → later ≡ so_far ++ Step agent ∷ rest → IsAtWork (world_at so_far) agent t → (what : Served) → (step (fixed_of given) (world_at so_far) (Step agent)).done.served ≡ Some what
      → (z : ℕ) (question : Asked) → what.request.value ≡ request_for t z question
      → ((prefix : Prefix) (dver : ℕ) → what.reply.value ≡ reply.Held prefix dver → opens z (mode_asked question) what.server ≡ true)
      × ((holder : ℕ) (prepared : Bool) → what.reply.value ≡ reply.Busy holder prepared → opens z (mode_asked question) what.server ≡ false)

  module _ (opens : ℕ → LockMode → ℕ → Bool) (weaker : (z server : ℕ) → opens z Exclusive server ≡ true → opens z Shared server ≡ true)
      (opens_up : (z : ℕ) (mode : LockMode) (server : ℕ) → opens z mode server ≡ true → is_up (run given base) server ≡ true) (fits : Fits opens) where
    abbrev pub sight : Sight
    sight = record { opens = opens; first = λ z. first_mode (asks_for given base t caller ops) z; met = λ z server holder. true; weaker = weaker }

    abbrev pub Known : ℕ → Prefix → Type 0
    Known z prefix = WasPrefix (beginning z given) (machine_of given z base).log prefix

    pub answering : (z : ℕ) → asks_of (asks_for given base t caller ops) z ≡ true → Answering (fixed_of given) (run given base) z (machine_of given z base) (finds_at sight z)
    answering z has = search arith

    -- by its number
    asked_so : (z : ℕ) → asks_of (locks_on (table_of given base) its) z ≡ true → asks_of (asks_for given base t caller ops) z ≡ true
    asked_so z is = subst (λ n. asks_of (locks_asked (table_of given base) n caller ops) z ≡ true) number is

    pub ground : Ground (fixed_of given) (run given base) sight actor.agent.cache site (locks_on (table_of given base) its) Known
    ground = record {
      first = λ z. ap (λ n. first_mode (locks_asked (table_of given base) n caller ops) z) (sym number);
      rules = λ z start is may.
          rules_of given z (machine_of given z base) (run given base) (effects.inv given base (all_keep given base goes.can_base) z) (finds_at sight z) (answering z (asked_so z is)) start (goes.starts z start (asked_so z is) may);
      valid = λ z prefix was. subst (λ (p : Prefix). IsValid p.votes) was.1 ((effects.inv given base (all_keep given base goes.can_base) z).logged.valid prefix.pver);
    }

    same_service : (table_of given base).service ≡ (fixed_of given).service
    same_service = service_stays (rows.opening given) (decisions given base)

    abbrev pub PhaseIn : Suites → Cache → Phase → Type 0
    PhaseIn suites now phase = PhaseStands (fixed_of given) (run given base) sight (table_of given base) its actor.agent.cache Known ground suites now phase

    abbrev Good : CourseStep → Type 0
    Good step = StepStands (fixed_of given) (run given base) sight (table_of given base) its actor.agent.cache Known ground step

    abbrev Right_of : Suites → Ending → Type 0
    Right_of suites ended = EndsRight (fixed_of given) (run given base) sight (table_of given base) its actor.agent.cache suites ended

    abbrev pub Right : Ending → Type 0
    Right ended = (suites : Suites) × Right_of suites ended

    pub record Course (so_far : List Event) : Type 0 where
      pub here : Actor
      pub there : actor_at (world_after given events agent caller site ops so_far) agent ≡ Some here
      pub txn_run : TransactionRun
      pub running : here.agent.doing ≡ Some (Running txn_run)
      pub task_is : txn_run.task ≡ its
      pub is_open : IsOpenPhase txn_run.phase
      pub stands : PhaseIn txn_run.suites here.agent.cache txn_run.phase

    -- its end is fixed, and it is undecided
    pub record Short : Type 0 where
      pub cause : Cause
      pub right : Right (Undecided cause)
      pub told : AllTold given base events later agent t caller site ops actor goes right.0

    abbrev pub State' : List Event → Type 0
    State' so_far = Course so_far ⊎ ((IsAtWork (world_after given events agent caller site ops so_far) agent t → ⊥) × Short)

    runs_it : (so_far : List Event) (c : Course so_far) → runs t c.here.agent.doing ≡ true
    runs_it so_far c = ap (runs t) c.running ∙ eq-eqb c.txn_run.task.t t (ap (λ (task : Task). task.t) c.task_is ∙ number)

    pub course_works : (so_far : List Event) (c : Course so_far) → IsAtWork (world_after given events agent caller site ops so_far) agent t
    course_works so_far c = at_work (world_at so_far) agent t c.here c.there (subst IsOpen (sym c.running) c.is_open) (runs_it so_far c)

    closed_rests : (so_far : List Event) (here : Actor) → actor_at (world_after given events agent caller site ops so_far) agent ≡ Some here → (IsOpen here.agent.doing → ⊥)
        → IsAtWork (world_after given events agent caller site ops so_far) agent t → ⊥
    closed_rests so_far here there closed work = search arith

    -- what a step leaves, of which nothing is decided
    by_after : (so_far rest : List Event) → later ≡ so_far ++ rest → HeardNext given base events later agent t caller site ops actor goes so_far → (here : Actor) (now : Cache) (after : After TransactionRun)
        → actor_at (world_after given events agent caller site ops so_far) agent ≡ Some here → here.agent.doing ≡ left Running after → here.agent.cache ≡ now
        → AfterStands (fixed_of given) (run given base) sight (table_of given base) its actor.agent.cache Known ground now after → words.Leaves its verdict.Aborted after → State' so_far
    by_after so_far rest split next here now (Ends ended) there does cache stands leaves =
        let rests = closed_rests so_far here there (λ open'. subst IsOpen does open') in
        inr (
          rests,
          record {
            cause = leaves.0;
            right = (stands.0, subst (Right_of stands.0) leaves.1 stands.1);
            told = told_none given base events later agent t caller site ops actor goes so_far rest split rests next.heard
                (ap (λ (a : Actor). is_idle a.agent.doing) (same_Some next.heard.here here (sym next.heard.there ∙ there)) ∙ ap is_idle does) next.early stands.0;
          },
        )
    by_after so_far rest split next here now (GoesOn more) there does cache stands leaves = of more.phase refl
      where
        open_now : IsOpenPhase more.phase → State' so_far
        open_now open' = search arith

        of : (phase : Phase) → more.phase ≡ phase → State' so_far
        of (Finishing servers v ended) is =
            let told = subst (words.Tells verdict.Aborted) is leaves.1 in
            let right : Right_of more.suites ended = subst (PhaseIn more.suites now) is stands.1 in
            let rests = closed_rests so_far here there (λ open'. subst IsOpenPhase is (subst IsOpen does open')) in
            inr (
              rests,
              record {
                cause = told.1.0;
                right = (more.suites, subst (Right_of more.suites) (told.1.1) right);
                told = told_running given base events later agent t caller site ops actor goes so_far rest split rests next.heard more
                    (ap (λ (a : Actor). a.agent.doing) (same_Some next.heard.here here (sym next.heard.there ∙ there)) ∙ does);
              },
            )
        of other is = open_now (subst IsOpenPhase (sym is) tt)

    -- ---- its begin

    begun_all : (64 * actor.agent.count + agent ≡ t) × (begins (fixed_of given) actor.agent (Transaction caller site ops) ≡ true)
    begun_all = its_begin given events later agent t caller site ops actor goes.can goes.there goes.begins

    state_first : State' []
    state_first =
        let first = execute (fixed_of given) its (record { suites = []; cache = actor.agent.cache }) in
        let heard = heard_first given base events later agent t caller site ops actor goes in
        by_after [] later refl (record { heard = heard; early = λ one has. absurd (first_untold given base events later agent t caller site ops actor goes one has) }) (record actor { agent = begin (fixed_of given) actor.agent (Transaction caller site ops) }) first.cache first.after (begun_there given events later agent t caller site ops actor goes.can goes.there goes.begins)
        (ap (λ b. (begin_if b).doing) begun_all.1) (ap (λ b. (begin_if b).cache) begun_all.1)
        (begin_stands (fixed_of given) (run given base) sight (table_of given base) its actor.agent.cache Known ground same_service)
        (words.leaves_begin (fixed_of given) its actor.agent.cache)
      where
        begin_if : Bool → Agent
        begin_if b = cond b (record (started (fixed_of given) actor.agent (Transaction caller site ops)) { count = actor.agent.count + 1 }) actor.agent

    -- ---- an event that is not its own

    forgets : (site' : ℕ) (now : Cache) (suites : Suites) (phase : Phase) → IsOpenPhase phase → PhaseIn suites now phase → PhaseIn suites (forgotten site' now) phase
    forgets site' now suites phase h4 h5 = grind (hint_forgotten, arith)

    aside : (so_far rest : List Event) (event : Event) (split : later ≡ so_far ++ event ∷ rest) (c : Course so_far) (busy : _)
        → Apart given agent (world_after given events agent caller site ops so_far) c.here c.there busy (step (fixed_of given) (world_after given events agent caller site ops so_far) event) → Course (so_far ++ event ∷ [])
    aside so_far rest event split c busy apart = ⊎_elim
        (λ same. record {
          here = apart.new;
          there = ap (λ w. actor_at w agent) (next_is given base events later agent t caller site ops actor goes so_far event) ∙ apart.now;
          txn_run = c.txn_run;
          running = ap (λ (a : Agent). a.doing) same ∙ c.running;
          task_is = c.task_is;
          is_open = c.is_open;
          stands = subst (λ now. PhaseIn c.txn_run.suites now c.txn_run.phase) (ap (λ (a : Agent). a.cache) (sym same)) c.stands;
        })
        (λ gone. record {
          here = apart.new;
          there = ap (λ w. actor_at w agent) (next_is given base events later agent t caller site ops actor goes so_far event) ∙ apart.now;
          txn_run = c.txn_run;
          running = ap (λ (a : Agent). a.doing) gone.1 ∙ c.running;
          task_is = c.task_is;
          is_open = c.is_open;
          stands = subst (λ now. PhaseIn c.txn_run.suites now c.txn_run.phase) (ap (λ (a : Agent). a.cache) (sym gone.1)) (forgets gone.0 c.here.agent.cache c.txn_run.suites c.txn_run.phase c.is_open c.stands);
        })
        apart.is

    -- ---- a step of its own

    module _ (so_far rest : List Event) (split : later ≡ so_far ++ Step agent ∷ rest) (c : Course so_far)
        (took : OwnTook (fixed_of given) (world_after given events agent caller site ops so_far) agent c.here c.there (step (fixed_of given) (world_after given events agent caller site ops so_far) (Step agent))) where
      abbrev said : Reply
      said = reply_of took.st took.asked.1

      work : IsAtWork (world_after given events agent caller site ops so_far) agent t
      work = course_works so_far c

      number_here : c.txn_run.task.t ≡ t
      number_here = ap (λ (task : Task). task.t) c.task_is ∙ number

      up : (took.st.up ≡ true) × (is_up (run given base) took.asked.0 ≡ true)
      up = goes.up so_far (Step agent ∷ rest) split took.asked.0 took.st took.at

      request_is : request_in (fixed_of given) its c.txn_run.suites c.txn_run.phase ≡ Some (took.asked.0, took.asked.1)
      request_is = subst (λ task. request_in (fixed_of given) task c.txn_run.suites c.txn_run.phase ≡ Some (took.asked.0, took.asked.1)) c.task_is (sym (ap (next_in (fixed_of given)) c.running) ∙ took.next)

      its_finds : Finds took.st took.asked.1
      its_finds = search (finds_then, work, number_here, arith)

      replies_up : said ≡ reply_up took.st took.asked.1
      replies_up = ap (λ b. cond b (reply_up took.st took.asked.1) (reply_down took.asked.1)) up.0

      -- ---- it is answered rightly

      says : (z : ℕ) (question : Asked) → took.asked.1 ≡ request_for t z question → said ≡ locking_reply (in_the_way t z (mode_asked question) took.st.locks) (copy_of took.st.store z)
      says z question h2 = search (replies_up, its_finds, arith)

      lock_right : (z : ℕ) → asks_of (locks_on (table_of given base) its) z ≡ true → (question : Asked) → took.asked.1 ≡ request_for t z question → Answers (fixed_of given) (run given base) sight z question took.asked.0 said
      lock_right z has question is = subst (Answers (fixed_of given) (run given base) sight z question took.asked.0) (sym (says z question is)) (of (in_the_way t z (mode_asked question) took.st.locks) refl)
        where
          fit : ((prefix : Prefix) (dver : ℕ) → said ≡ reply.Held prefix dver → opens z (mode_asked question) took.asked.0 ≡ true)
              × ((holder : ℕ) (prepared : Bool) → said ≡ reply.Busy holder prepared → opens z (mode_asked question) took.asked.0 ≡ false)
          fit = fits so_far rest split work _ took.done z question is

          of : (found : Option Lock) → in_the_way t z (mode_asked question) took.st.locks ≡ found → Answers (fixed_of given) (run given base) sight z question took.asked.0 (locking_reply found (copy_of took.st.store z))
          of None found =
              let copy = goes.stored so_far (Step agent ∷ rest) split took.asked.0 took.st took.at z (asked_so z has) in
              (fit.0 (copy_of took.st.store z).prefix (copy_of took.st.store z).dver (says z question is ∙ ap (λ found. locking_reply found (copy_of took.st.store z)) found), copy.0, copy.1)
          of (Some lock) found = (fit.1 lock.t lock.prepared (says z question is ∙ ap (λ found. locking_reply found (copy_of took.st.store z)) found), refl)

      lock_here : (z : ℕ) → asks_of (locks_on (table_of given base) its) z ≡ true → LockRight (fixed_of given) (run given base) sight its.t z took.asked.0 took.asked.1 said
      lock_here z has question asked' = lock_right z has question (asked' ∙ ap (λ n. request_for n z question) number)

      right_for : (now : Cache) (suites : Suites) (phase : Phase) → PhaseIn suites now phase → IsOpenPhase phase → request_in (fixed_of given) its suites phase ≡ Some (took.asked.0, took.asked.1)
          → RightFor (fixed_of given) (run given base) sight its phase took.asked.0 took.asked.1 said
      right_for now suites (Gathering z) at open' asks' = lock_here z at.0.found.asked
      right_for now suites (Fetching z) at open' asks' =
          let is = fetch_is its z (suite_of suites z) took.asked.0 took.asked.1 asks' in
          ap (λ said. is_some (given_in said))
          (replies_up ∙ ap (reply_up took.st) is ∙ ap (λ b. cond b (gives (copy_of took.st.store z)) reply.Lost) (subst (Finds took.st) is its_finds))
      right_for now suites (doing.Widening (z ∷ left) granted) at open' asks' =
          lock_here z (subst (λ all. asks_of all z ≡ true) (sym at.sets.all)
          (has_any (λ (one : ℕ × LockMode). one.0 == z) (onto at.sets.so_far []) (z, Exclusive)
          (onto_so_far at.sets.so_far [] (z, Exclusive) (asked_exclusive at.sets.so_far z (at.sets.exclusive (z, at.votes) (inl refl)))) (eq-eqb z z refl)))
      right_for now suites (Preparing [] outcome) at open' asks' = absurd (none-some (took.asked.0, took.asked.1) asks')
      right_for now suites (Preparing (server ∷ left) outcome) at open' asks' = search (asks_same, replies_up, or_right, its_finds, arith)
      right_for now suites (Deciding outcome) at open' asks' =
          let decision = decision_of its outcome in
          let is = sym (asks_same (home_of (fixed_of given).service its.t) took.asked.0 (request.Decide its.t decision) took.asked.1 asks') in
          let none : record_of took.st its.t ≡ None =
          ap (record_of took.st) number
          ∙ unrecorded_at given events later agent t caller site ops actor goes.can goes.there goes.begins goes.spared so_far (Step agent ∷ rest) split work took.asked.0 took.st took.at in
          inl (up.1, replies_up ∙ ap (reply_up took.st) is ∙ ap (λ old. reply.Verdict (recorded old (verdict_of decision))) none)
      right_for now suites other at open' asks' = tt

      -- ---- its course

      abbrev step_of : Task → CourseStep
      step_of task = after_reply (fixed_of given) task c.here.agent.cache c.txn_run.suites c.txn_run.phase took.asked.0 took.asked.1 said

      taken : take (fixed_of given) c.here.agent (Replied said) ≡ with_step c.here.agent (step_of c.txn_run.task)
      taken = search arith

      here_is : took.new.agent ≡ (with_step c.here.agent (step_of its)).agent
      here_is = took.took ∙ ap (λ (taken : Taken). taken.agent) taken ∙ ap (λ task. (with_step c.here.agent (step_of task)).agent) c.task_is

      abbrev next : List Event
      next = so_far ++ Step agent ∷ []

      abbrev all : List Event
      all = events ++ Begin agent (Transaction caller site ops) ∷ (so_far ++ Step agent ∷ [])

      split_on : later ≡ (so_far ++ Step agent ∷ []) ++ rest
      split_on = split ∙ sym (append_assoc so_far (Step agent ∷ []) rest)

      can : CanBe given (events ++ Begin agent (Transaction caller site ops) ∷ (so_far ++ Step agent ∷ []))
      can =
          can_front given (events ++ Begin agent (Transaction caller site ops) ∷ (so_far ++ Step agent ∷ [])) rest
          (subst (CanBe given) (ap (λ later. events ++ Begin agent (Transaction caller site ops) ∷ later) split_on ∙ sym (append_assoc events (Begin agent (Transaction caller site ops) ∷ (so_far ++ Step agent ∷ [])) rest)) goes.can)

      is_run : (so_far : List Event) → world_after given events agent caller site ops so_far ≡ run given (events ++ Begin agent (Transaction caller site ops) ∷ so_far)
      is_run = run_at given events later agent t caller site ops actor goes.can goes.there goes.begins

      there_next : actor_at (world_after given events agent caller site ops (so_far ++ Step agent ∷ [])) agent ≡ Some took.new
      there_next = ap (λ w. actor_at w agent) (next_is given base events later agent t caller site ops actor goes so_far (Step agent)) ∙ took.now

      resolves_none : is_resolve took.asked.1 ≡ false
      resolves_none = never_resolves (fixed_of given) its c.txn_run.suites c.txn_run.phase took.asked.0 took.asked.1 request_is

      stands_z : (z : ℕ) → Stands (machine_of given z all) t
      stands_z z = search (stands_next, work, locks_stand, arith)

      module _ (undecided : is_decide took.asked.1 ≡ false) where
        unrecorded : (i : ℕ) (st : State) → server_at (run given all) i ≡ Some st → record_of st t ≡ None
        unrecorded i st at =
            unrecorded_on (fixed_of given) (world_at so_far) agent t c.here c.there (step (fixed_of given) (world_at so_far) (Step agent)) took undecided resolves_none
            (unrecorded_at given events later agent t caller site ops actor goes.can goes.there goes.begins goes.spared so_far (Step agent ∷ rest) split work) i st
            (ap (λ w. server_at w i) (sym (next_is given base events later agent t caller site ops actor goes so_far (Step agent)) ∙ is_run next) ∙ at)

        module _ (more : TransactionRun) (is : (step_of its).after ≡ GoesOn more) where
          running_on : took.new.agent.doing ≡ Some (Running more)
          running_on = ap (λ (a : Agent). a.doing) here_is ∙ ap (left Running) is

          number_on : more.task.t ≡ t
          number_on =
              subst (λ doing. IsMine t doing) (sym (ap (λ (a : Agent). a.doing) took.took) ∙ running_on)
              (subst (λ found. IsMine t (take_in (fixed_of given) c.here.agent (Replied said) c.here.agent.doing found).agent.doing) (sym took.next)
              (mine_taken given (decisions given (events ++ Begin agent (Transaction caller site ops) ∷ so_far)) agent t c.here.agent (Replied said) took.asked c.here.agent.doing took.next
              ((holds_of given goes.can.accepted (events ++ Begin agent (Transaction caller site ops) ∷ so_far)).agents.at agent c.here.agent (ap agent_of (ap (λ w. actor_at w agent) (sym (is_run so_far)) ∙ c.there)))
              (runs_it so_far c)))

          ordered_on : IsOrdered nat_cmp more.suites
          ordered_on =
              let h = heard_at given base events later agent t caller site ops actor goes so_far (Step agent ∷ rest) split work in
              let same : h.here ≡ c.here = same_Some h.here c.here (sym h.there ∙ c.there) in
              let told : List agents.Event = h.told ++ agents.Take (Replied said) ∷ [] in
              let is_then : took.new.agent ≡ agents.after_all (fixed_of given) (begin (fixed_of given) actor.agent (Transaction caller site ops)) told =
              took.took ∙ ap (λ a. (take (fixed_of given) a (Replied said)).agent) (ap (λ (a : Actor). a.agent) (sym same) ∙ h.is)
              ∙ sym (after-append (fixed_of given) (begin (fixed_of given) actor.agent (Transaction caller site ops)) h.told (agents.Take (Replied said))) in
              (subst (Keeps (plus_all nothing_held (exchanges (fixed_of given) (begin (fixed_of given) actor.agent (Transaction caller site ops)) told))) (ap (λ (a : Agent). a.doing) (sym is_then) ∙ running_on)
              (keeping.all_keep nothing_held (fixed_of given) (begin (fixed_of given) actor.agent (Transaction caller site ops)) told
              (begin_keeps (fixed_of given) actor.agent (Transaction caller site ops) (idle_before given base events later agent t caller site ops actor goes)))).0

          knows_on : (z : ℕ) → asks_of (locks_on (table_of given base) its) z ≡ true → IsSoAt (known.known_of (known_of more.suites) z) (row_of (table_of given base).rows z)
          knows_on z has =
              subst (λ found. IsSoAt (known.known_of (known_of more.suites) z) found) (goes.tables next rest split_on z (asked_so z has))
              (knows_table given all can agent took.new more (ap (λ w. actor_at w agent) (sym (is_run next)) ∙ there_next) running_on ordered_on
              (λ z. subst (Stands (machine_of given z all)) (sym number_on) (stands_z z))
              (λ z. subst (λ t. (machine_of given z all).verdict t ≢ Some AnsweredVerdict) (sym number_on) (unanswered given all can t unrecorded z)) z)

      good_step : Good (step_of its)
      good_step =
          reply_stands (fixed_of given) (run given base) sight (table_of given base) its actor.agent.cache Known ground same_service c.here.agent.cache c.txn_run.suites c.txn_run.phase c.stands
          took.asked.0 took.asked.1 request_is said (right_for c.here.agent.cache c.txn_run.suites c.txn_run.phase c.stands c.is_open request_is)
          (λ may more is. knows_on (early_asks (fixed_of given) its c.txn_run.suites c.txn_run.phase may took.asked.0 took.asked.1 request_is).1 more is)

      -- where it does not ask to be decided it goes on, or ends undecided
      own_on : is_decide took.asked.1 ≡ false → State' (so_far ++ Step agent ∷ [])
      own_on undecided =
          by_after next rest split_on
          (heard_next given base events later agent t caller site ops actor goes so_far rest split work c.here c.there took
          (open_next (fixed_of given) c.here.agent.doing took.asked took.next (subst IsOpen (sym c.running) c.is_open)))
          took.new (step_of its).cache (step_of its).after there_next (ap (λ (a : Agent). a.doing) here_is) (ap (λ (a : Agent). a.cache) here_is) good_step
          (subst (λ b. words.Leaves its (cond b (said_by (Replied said) verdict.Aborted) verdict.Aborted) (step_of its).after) undecided
          (words.leaves_response (fixed_of given) its c.here.agent.cache c.txn_run.suites c.txn_run.phase took.asked.0 took.asked.1 (Replied said) verdict.Aborted request_is (tells_open c.txn_run.phase c.is_open)))
        where
          tells_open : (phase : Phase) → IsOpenPhase phase → words.Tells verdict.Aborted phase
          tells_open phase h1 = search arith

    -- ---- all along, where it never asks to be decided

    module _ (never : (so_far rest : List Event) → later ≡ so_far ++ Step agent ∷ rest → IsAtWork (world_at so_far) agent t → (here : Actor) → actor_at (world_at so_far) agent ≡ Some here
        → (asked : ℕ × Request) → next_of (fixed_of given) here.agent ≡ Some asked → is_decide asked.1 ≡ false) where
      state_on : (so_far rest : List Event) (event : Event) → later ≡ so_far ++ event ∷ rest → State' so_far → State' (so_far ++ event ∷ [])
      state_on so_far rest event split (inr short) =
          inr (λ work. short.0 (at_work_before given events later agent t caller site ops actor goes.can goes.there goes.begins so_far (event ∷ []) work), short.1)
      state_on so_far rest event split (inl c) =
          ⊎_elim
          (λ apart. inl (aside so_far rest event split c _ apart.0))
          (λ own. own_step own.0 own.1)
          (parts given base events later agent t caller site ops actor goes so_far rest event split (course_works so_far c) c.here c.there)
        where
          own_step : event ≡ Step agent → is_some (step (fixed_of given) (world_at so_far) event).done.served ≡ true → State' (so_far ++ event ∷ [])
          own_step is served =
              let split' : later ≡ so_far ++ Step agent ∷ rest = split ∙ ap (λ event. so_far ++ event ∷ rest) is in
              let took = own_took (fixed_of given) (world_at so_far) agent c.here c.there (subst (λ event. is_some (step (fixed_of given) (world_at so_far) event).done.served ≡ true) is served) in
              subst (λ event. State' (so_far ++ event ∷ [])) (sym is)
              (own_on so_far rest split' c took (never so_far rest split' (course_works so_far c) c.here c.there took.asked took.next))

      state_at : (so_far rest : List Event) → later ≡ so_far ++ rest → State' so_far
      state_at = along later State' state_on state_first

      pub course_at : (so_far rest : List Event) → later ≡ so_far ++ rest → IsAtWork (world_after given events agent caller site ops so_far) agent t → Course so_far
      course_at so_far rest split work = ⊎_elim (λ c. c) (λ gone. absurd (gone.0 work)) (state_at so_far rest split)

      pub short_at : (IsAtWork (world_after given events agent caller site ops later) agent t → ⊥) → Short
      short_at none = ⊎_elim (λ c. absurd (none (course_works later c))) (λ gone. gone.1) (state_at later [] (sym (append-nil later)))
