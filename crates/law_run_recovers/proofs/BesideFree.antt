-- A transaction that nobody meets where all servers are up: what it is replied is neither Busy, Down nor Lost, and so it does not end undecided.
use Rattle.law_run_recovers.proofs.Vocabulary.{◌≡◌, ◌⊎◌, inl, inr, ⊎_elim, ℕ, true, false, cond, List, [], ◌∷◌, ◌++◌, append_assoc, Some, None, is_some, refl, sym, ap, subst, ◌∙◌, Contains, false≢true, and_from, none-some, arith, same_Some, Identity}
use Rattle.law_run_recovers.proofs.Vocabulary.{Opening, LockMode, Op, Request, Reply, Verdict, is_busy, is_down, is_lost, is_prepared, State, reply_of, verdict_of, Asked, mode_asked, Cache, Cause, Undecided, Transaction, Replied, Suites, Task, Phase}
use Rattle.law_run_recovers.proofs.Vocabulary.{Gathering, Fetching, Preparing, Deciding, Finishing, asked_for, given_in, decision_of, request_in, Agent, fixed_of, begin, forget, take, after_all, is_decide, asks_same, after-append, EndedJob, Event}
use Rattle.law_run_recovers.proofs.Vocabulary.{Begin, Step, Actor, server_at, actor_at, step, run, CanBe, can_front, valid_back, all_consistent, up_valid, HasValidVotes, copy_valid, cache_valid, asks_for, is_open_way, is_open_at, up_in, is_up}
use Rattle.law_run_recovers.proofs.Vocabulary.{world_after, GoesUnmet, hinders_itself, GoesAmongLocks, EndsThen}
use Rattle.rep_core.proofs.FittingReplies.{reply_fits}
use Rattle.law_run_alone.proofs.Exchanged.{IsFree, Since, since_begin, since_forget, since_take, never_undecided}
use Rattle.rep_core.specs.declared.request.Request.TheVariants as request
use Rattle.rep_core.specs.declared.reply.Reply.TheVariants as reply
use Rattle.rep_core.specs.declared.reply.Verdict.TheVariants as verdict
use Rattle.txn_core.specs.Doing as doing
use Rattle.txn_core.specs.Agents as agents
use Rattle.law_run_recovers.proofs.Apart.{Apart, event_apart}
use Rattle.law_run_recovers.proofs.Early.{ending_in}
use Rattle.law_run_recovers.proofs.Heard.{RightFor, asks_for as asked_by}
use Rattle.law_run_recovers.proofs.Keeps.{run_at}
use Rattle.law_run_recovers.proofs.NearGround.{its, opens, sight}
use Rattle.law_run_recovers.proofs.Open.{open_first, unmet_is_among_locks, near_among, plain_way}
use Rattle.law_run_recovers.proofs.Polled.{Answers}
use Rattle.law_run_recovers.proofs.StepsServed.{OwnTook, own_took}
use Rattle.law_run_recovers.proofs.AmongAsks.{gather_asks, widen_asks}
use Rattle.law_run_recovers.proofs.AmongCourse.{Course, PhaseIn, runs_it, next_is, running_now, course_runs, apart_on}
use Rattle.law_run_recovers.proofs.Steady.{GoesSteadily, steady, never_hindered}
use Rattle.law_run_recovers.proofs.AmongEnds.{Over, over_on, over_now, ends_where}
use Rattle.law_run_recovers.proofs.AmongOver.{course_not_over}
use Rattle.law_run_recovers.proofs.AmongBegin.{idle_before, first_course, first_told}
use Rattle.law_run_recovers.proofs.AmongStep.{request_is, right_here, own_on}
use Rattle.law_run_recovers.proofs.Picks.{along}

-- ---- what is right for one that nobody meets

pub record IsKind (asked : Request) (said : Reply) : Type 0 where
  pub busy : is_busy said ≡ false
  pub down : is_down said ≡ false
  pub kept : is_lost said ≡ false
  pub decides : is_decide asked ≡ true → said ≡ reply.Verdict verdict.Aborted → ⊥

given_kind : (asked : Request) (said : Reply) → is_some (given_in said) ≡ true → IsKind asked said
given_kind asked said h2 = search arith

prepared_kind : (asked : Request) (said : Reply) → is_prepared said ≡ true → IsKind asked said
prepared_kind asked said h2 = search arith

not_aborted : (task : Task) (outcome : doing.Proposal) → verdict_of (decision_of task outcome) ≡ verdict.Aborted → ⊥
not_aborted task outcome h2 = search arith

abbrev verdict_said : Reply → Verdict
verdict_said (reply.Verdict v) = v
verdict_said other = verdict.Aborted

verdict_kind : (asked : Request) (v : Verdict) → (v ≡ verdict.Aborted → ⊥) → IsKind asked (reply.Verdict v)
verdict_kind asked v not = record { busy = refl; down = refl; kept = refl; decides = λ decide is. not (ap verdict_said is) }

finish_kind : (st : State) (t : ℕ) (v : Verdict) → st.up ≡ true → IsKind (request.Finish t v) (reply_of st (request.Finish t v))
finish_kind st t v up = search arith

module _ (given : Opening) (events later : List Event) (agent t : ℕ) (caller : Identity) (site : ℕ) (ops : List Op) (actor : Actor) (unmet : GoesUnmet given events later agent t caller site ops actor)
    (near : (server : ℕ) → unmet.near server ≡ true)
    (ups : (so_far rest : List Event) → later ≡ so_far ++ rest → (server : ℕ) (st : State) → server_at (world_after given events agent caller site ops so_far) server ≡ Some st → st.up ≡ true) where
  abbrev among : GoesAmongLocks given events later agent t caller site ops actor
  among = unmet_is_among_locks given events later agent t caller site ops actor unmet

  abbrev goes : GoesSteadily given events later agent t caller site ops actor
  goes = steady given events later agent t caller site ops actor among

  -- its steps are served
  calm : (so_far rest : List Event) (event : Event) → later ≡ so_far ++ event ∷ rest → Course given events later agent t caller site ops actor goes so_far
      → hinders_itself given agent (world_after given events agent caller site ops so_far) event ≡ false
  calm so_far rest event split c = never_hindered given events later agent t caller site ops actor among so_far rest event split (course_runs given events later agent t caller site ops actor goes so_far c)

  abbrev its_task : Task
  its_task = its given events later agent t caller site ops actor goes

  -- a server that was up is open to all that it asks for
  open_so : (server z : ℕ) (mode : LockMode) → Contains (asks_for given events t caller ops) (z, mode) → is_up (run given events) server ≡ true → opens given events later agent t caller site ops actor goes z mode server ≡ true
  open_so server z mode has up =
      and_from (goes.near server) (is_open_at (run given events) t z mode server) (near_among given events later agent t caller site ops actor unmet server (near server))
      (ap is_open_way (plain_way t z mode (server_at (run given events) server) (open_first given events later agent t caller site ops actor unmet server (z, mode) (near server) has))
      ∙ ap (λ b. is_open_way (cond b (Some None) None)) up)

  -- ---- a step of its own

  module _ (so_far rest : List Event) (split : later ≡ so_far ++ Step agent ∷ rest) (c : Course given events later agent t caller site ops actor goes so_far)
      (took : OwnTook (fixed_of given) (world_after given events agent caller site ops so_far) agent c.here c.there (step (fixed_of given) (world_after given events agent caller site ops so_far) (Step agent))) where
    abbrev said : Reply
    said = reply_of took.st took.asked.1

    st_up : took.st.up ≡ true
    st_up = ups so_far (Step agent ∷ rest) split took.asked.0 took.st took.at

    first_up : is_up (run given events) took.asked.0 ≡ true
    first_up =
        sym ((unmet.unmet so_far (Step agent ∷ rest) split (running_now given events later agent t caller site ops actor goes so_far rest (Step agent) split c)).up took.asked.0 (near took.asked.0))
        ∙ ap up_in took.at ∙ st_up

    lock_kind : (z : ℕ) (question : Asked) → Contains (asks_for given events t caller ops) (z, mode_asked question) → (other : Reply)
        → Answers (fixed_of given) (run given events) (sight given events later agent t caller site ops actor goes) z question took.asked.0 other → IsKind took.asked.1 other
    lock_kind z question h2 other h4 = search (false≢true, open_so, first_up, arith)

    kind_in : (now : Cache) (suites : Suites) (phase : Phase) → PhaseIn given events later agent t caller site ops actor goes suites now phase → request_in (fixed_of given) its_task suites phase ≡ Some (took.asked.0, took.asked.1)
        → RightFor (fixed_of given) (run given events) (sight given events later agent t caller site ops actor goes) its_task phase took.asked.0 took.asked.1 said → IsKind took.asked.1 said
    kind_in now suites (Gathering z) at is right =
        let asks = asked_by its_task z at.0.suite.collector took.asked.0 took.asked.1 (sym (ap (asked_for its_task z) at.0.there) ∙ is) in
        lock_kind z asks.question (gather_asks given events later agent t caller site ops actor goes took.asked.0 took.asked.1 now suites z at asks) said (right asks.question asks.asked_is)
    kind_in now suites (Fetching z) at is right = given_kind took.asked.1 said right
    kind_in now suites (doing.Widening [] granted) at is right = absurd at
    kind_in now suites (doing.Widening (z ∷ left) granted) at is right =
        let asks = asked_by its_task z at.suite.collector took.asked.0 took.asked.1 (sym (ap (asked_for its_task z) at.there) ∙ is) in
        lock_kind z asks.question (widen_asks given events later agent t caller site ops actor goes took.asked.0 took.asked.1 now suites z left granted at asks) said (right asks.question asks.asked_is)
    kind_in now suites (Preparing left outcome) at is right = prepared_kind took.asked.1 said right
    kind_in now suites (Deciding outcome) at is right = search (verdict_kind, not_aborted, false≢true, first_up, arith)
    kind_in now suites (Finishing [] v ended) at is right = absurd (none-some (took.asked.0, took.asked.1) is)
    kind_in now suites (Finishing (first ∷ left) v ended) at is right = search (asks_same, finish_kind, st_up, arith)

    pub its_kind : IsKind took.asked.1 (reply_of took.st took.asked.1)
    its_kind =
        let r = runs_it given events later agent t caller site ops actor goes so_far c in
        kind_in c.here.agent.cache r.txn_run.suites r.txn_run.phase r.at.1 (request_is given events later agent t caller site ops actor goes so_far rest split c r took)
        (right_here given events later agent t caller site ops actor goes so_far rest split c r took)

    -- so what it is replied is free
    can_here : CanBe given (events ++ Begin agent (Transaction caller site ops) ∷ so_far)
    can_here =
        can_front given (events ++ Begin agent (Transaction caller site ops) ∷ so_far) (Step agent ∷ rest)
        (subst (CanBe given) (ap (λ later. events ++ Begin agent (Transaction caller site ops) ∷ later) split ∙ sym (append_assoc events (Begin agent (Transaction caller site ops) ∷ so_far) (Step agent ∷ rest))) unmet.can)

    at_run : server_at (run given (events ++ Begin agent (Transaction caller site ops) ∷ so_far)) took.asked.0 ≡ Some took.st
    at_run = ap (λ w. server_at w took.asked.0) (sym (run_at given events later agent t caller site ops actor goes.can goes.there goes.begins so_far)) ∙ took.at

    pub its_free : IsFree true took.asked.1 (reply_of took.st took.asked.1)
    its_free = record {
      busy = its_kind.busy;
      down = its_kind.down;
      kept = its_kind.kept;
      fit = reply_fits took.st took.asked.1 (all_consistent given (events ++ Begin agent (Transaction caller site ops) ∷ so_far) took.asked.0 took.st at_run).sound;
      valid = search (st_up, up_valid, copy_valid, can_here, at_run, arith);
      decides = its_kind.decides;
      stood = λ stands. refl;
    }

  -- ---- all along

  abbrev begun_agent : Agent
  begun_agent = begin (fixed_of given) actor.agent (Transaction caller site ops)

  can_then : (so_far rest : List Event) → later ≡ so_far ++ rest → CanBe given (events ++ Begin agent (Transaction caller site ops) ∷ so_far)
  can_then so_far rest split =
      can_front given (events ++ Begin agent (Transaction caller site ops) ∷ so_far) rest
      (subst (CanBe given) (ap (λ later. events ++ Begin agent (Transaction caller site ops) ∷ later) split ∙ sym (append_assoc events (Begin agent (Transaction caller site ops) ∷ so_far) rest)) unmet.can)

  -- caches have valid votes
  cache_at : (so_far rest : List Event) → later ≡ so_far ++ rest → (here : Actor) → actor_at (world_after given events agent caller site ops so_far) agent ≡ Some here → HasValidVotes here.agent.cache
  cache_at so_far rest split here there =
      cache_valid given (events ++ Begin agent (Transaction caller site ops) ∷ so_far) (can_then so_far rest split) agent here
      (ap (λ w. actor_at w agent) (sym (run_at given events later agent t caller site ops actor goes.can goes.there goes.begins so_far)) ∙ there)

  abbrev Told : List Event → Type 0
  Told so_far = ((c : Course given events later agent t caller site ops actor goes so_far) × Since (fixed_of given) c.here.agent) ⊎ Over given events later agent t caller site ops actor goes so_far

  told_first : Told []
  told_first =
      let c = first_course given events later agent t caller site ops actor goes in
      let is : c.here.agent ≡ begun_agent = c.is ∙ ap (after_all (fixed_of given) begun_agent) (first_told given events later agent t caller site ops actor goes) in
      inl (
        c,
        subst (Since (fixed_of given)) (sym is)
            (since_begin (fixed_of given) actor.agent caller site ops (idle_before given events later agent t caller site ops actor goes) (valid_back events (Begin agent (Transaction caller site ops) ∷ later) unmet.can.votes).0
            (subst (λ (a : Agent). HasValidVotes a.cache) is (cache_at [] later refl c.here c.there))),
      )

  told_on : (so_far rest : List Event) (event : Event) → later ≡ so_far ++ event ∷ rest → Told so_far → Told (so_far ++ event ∷ [])
  told_on so_far rest event split (inr over) = inr (over_on given events later agent t caller site ops actor goes so_far event over)
  told_on so_far rest event split (inl on) =
      ⊎_elim aside own
      (event_apart given agent (world_after given events agent caller site ops so_far) on.0.here on.0.there on.0.busy event (calm so_far rest event split on.0))
    where
      split_on : later ≡ (so_far ++ event ∷ []) ++ rest
      split_on = split ∙ sym (append_assoc so_far (event ∷ []) rest)

      -- what it was told since leaves it so
      since_told : (told : List agents.Event) → (told ≡ on.0.told) ⊎ ((site' : ℕ) × (told ≡ on.0.told ++ agents.Forget site' ∷ [])) → HasValidVotes (after_all (fixed_of given) begun_agent told).cache
          → Since (fixed_of given) (after_all (fixed_of given) begun_agent told)
      since_told told (inl same) cache = subst (λ told. Since (fixed_of given) (after_all (fixed_of given) begun_agent told)) (sym same) (subst (Since (fixed_of given)) on.0.is on.1)
      since_told told (inr gone) cache =
          let is : after_all (fixed_of given) begun_agent told ≡ forget on.0.here.agent gone.0 =
          ap (after_all (fixed_of given) begun_agent) {x = told} {y = on.0.told ++ agents.Forget gone.0 ∷ []} gone.1 ∙ after-append (fixed_of given) begun_agent on.0.told (agents.Forget gone.0) ∙ ap (λ a. forget a gone.0) (sym on.0.is) in
          subst (Since (fixed_of given)) (sym is) (since_forget (fixed_of given) on.0.here.agent on.1 gone.0 (subst (λ (a : Agent). HasValidVotes a.cache) is cache))

      -- and so does a reply to what it asked
      since_reply : (took : OwnTook (fixed_of given) (world_after given events agent caller site ops so_far) agent on.0.here on.0.there (step (fixed_of given) (world_after given events agent caller site ops so_far) (Step agent)))
          → IsFree true took.asked.1 (reply_of took.st took.asked.1) → (told : List agents.Event) → told ≡ on.0.told ++ agents.Take (Replied (reply_of took.st took.asked.1)) ∷ []
          → HasValidVotes (after_all (fixed_of given) begun_agent told).cache
          → Since (fixed_of given) (after_all (fixed_of given) begun_agent told)
      since_reply took free told same cache =
          let said' = reply_of took.st took.asked.1 in
          let is : after_all (fixed_of given) begun_agent told ≡ (take (fixed_of given) on.0.here.agent (Replied said')).agent =
          ap (after_all (fixed_of given) begun_agent) {x = told} {y = on.0.told ++ agents.Take (Replied said') ∷ []} same ∙ after-append (fixed_of given) begun_agent on.0.told (agents.Take (Replied said'))
          ∙ ap (λ a. (take (fixed_of given) a (Replied said')).agent) (sym on.0.is) in
          subst (Since (fixed_of given)) (sym is) (since_take (fixed_of given) on.0.here.agent on.1 took.asked said' took.next free (subst (λ (a : Agent). HasValidVotes a.cache) is cache))

      aside : Apart given agent (world_after given events agent caller site ops so_far) on.0.here on.0.there on.0.busy (step (fixed_of given) (world_after given events agent caller site ops so_far) event) × (event ≡ Step agent → ⊥)
          → Told (so_far ++ event ∷ [])
      aside apart =
          let next = apart_on given events later agent t caller site ops actor goes so_far rest event split on.0 apart.0 apart.1 in
          let cache = cache_at (so_far ++ event ∷ []) rest split_on next.0.here next.0.there in
          inl (
            next.0,
            subst (Since (fixed_of given)) (sym next.0.is) (since_told next.0.told next.1 (subst (λ (a : Agent). HasValidVotes a.cache) next.0.is cache)),
          )

      own : (event ≡ Step agent) × (is_some (step (fixed_of given) (world_after given events agent caller site ops so_far) event).done.served ≡ true) → Told (so_far ++ event ∷ [])
      own is =
          let split' : later ≡ so_far ++ Step agent ∷ rest = split ∙ ap (λ event. so_far ++ event ∷ rest) is.0 in
          let took = own_took (fixed_of given) (world_after given events agent caller site ops so_far) agent on.0.here on.0.there
          (subst (λ event. is_some (step (fixed_of given) (world_after given events agent caller site ops so_far) event).done.served ≡ true) is.0 is.1) in
          subst (λ event. Told (so_far ++ event ∷ [])) (sym is.0)
          (⊎_elim
          (λ goes_on. inl (
            goes_on.0,
            subst (Since (fixed_of given)) (sym goes_on.0.is)
                (since_reply took (its_free so_far rest split' on.0 took) goes_on.0.told goes_on.1
                (subst (λ (a : Agent). HasValidVotes a.cache) goes_on.0.is (cache_at (so_far ++ Step agent ∷ []) rest (split' ∙ sym (append_assoc so_far (Step agent ∷ []) rest)) goes_on.0.here goes_on.0.there))),
          ))
          (λ ended. inr (over_now given events later agent t caller site ops actor goes so_far (Step agent) ended.0 ended.1 ended.2))
          (own_on given events later agent t caller site ops actor goes so_far rest split' on.0 (runs_it given events later agent t caller site ops actor goes so_far on.0) took))

  -- it was told so since its begin
  since_at : (so_far rest : List Event) → later ≡ so_far ++ rest → (c : Course given events later agent t caller site ops actor goes so_far) → Since (fixed_of given) c.here.agent
  since_at so_far rest split c =
      ⊎_elim
      (λ on. subst (λ (a : Actor). Since (fixed_of given) a.agent) (same_Some on.0.here c.here (sym on.0.there ∙ c.there)) on.1)
      (λ over. absurd (course_not_over given events later agent t caller site ops actor goes so_far c over))
      (along later Told told_on told_first so_far rest split)

  -- it does not end undecided
  pub not_undecided : (job : EndedJob) → EndsThen given events later agent t caller site ops job → (cause : Cause) → job.ending ≡ Undecided cause → ⊥
  not_undecided job ends cause is = ⊎_elim
      (λ e.
      let said' = reply_of e.took.st e.took.asked.1 in
      never_undecided (fixed_of given) unmet.can.c0 e.course.here.agent e.took.asked said' cause e.took.next (its_free e.so_far e.rest e.split e.course e.took)
      (since_at e.so_far (Step agent ∷ e.rest) e.split e.course)
      (subst (λ (a : Agent). HasValidVotes a.cache) e.took.took
      (cache_at (e.so_far ++ Step agent ∷ []) e.rest (e.split ∙ sym (append_assoc e.so_far (Step agent ∷ []) e.rest)) e.took.new
      (ap (λ w. actor_at w agent) (next_is given events later agent t caller site ops actor goes e.so_far (Step agent)) ∙ e.took.now)))
      (ending_in agent e.course.here (take (fixed_of given) e.course.here.agent (Replied said')).ending job (sym e.took.ended ∙ e.is) ∙ ap (λ ending. Some ending) is))
      (λ l. false≢true (sym (calm l.so_far l.rest l.event l.split l.course) ∙ l.hinders))
      (ends_where given events later agent t caller site ops actor goes job ends.there ends.of_it)
