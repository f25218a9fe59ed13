-- How far a transaction came, as its suites and its phase go on.
use Rattle.txn_core.proofs.Vocabulary.{◌≡◌, ℕ, Bool, true, cond, List, [], ◌∷◌, Option, Some, None, Ok, Err, refl, sym, ap, subst, ◌∙◌, option_map, MatchOption, IsSomeAnd, nat_cmp, false≢true, none-some, same_Some, arith, IsOrdered, Content}
use Rattle.txn_core.proofs.Vocabulary.{Reply, Verdict, Request, is_prepared, Limited, Cache, Service, MoreKnown, Knowledge, opened_suite, Reached, IsReached, unbegun, takes, Cause, Ending, Lost, Undecided, Replied, Plan, Fetched, NextPhase, Fixed}
use Rattle.txn_core.proofs.Vocabulary.{Task, Granted, Proposal, Phase, Gathering, Fetching, Widening, Preparing, Deciding, Finishing, TransactionRun, After, GoesOn, Ends, ReadPoint, GatheredSuite, Suites, suite_of, with_suite, known_row, known_of}
use Rattle.txn_core.proofs.Vocabulary.{Gathered, Step, decided, verdict_in, ending_by, cause_of_abort, tell_end, give_up, locked_at, prepare, to_widen, widened, widen_by, widen_one, widen_all, heard_of, after_reply, is_idle, Reaches, doing_of, heard}
use Rattle.txn_core.proofs.Vocabulary.{FallsShort, GoesBy, changed_at, settled_with, with_content, learned_suites, adds, goes_on, Learned, PendingQuorum, IsReachedIn, IsReachedOn, IsReachedAt, IsReachedBy, IsReachedIf, IsReachedUnless}
use Rattle.txn_core.proofs.Vocabulary.{gather_again, follow, taken, takes_in, new_for, with_asked, opened_all, carried_out, shelved, IsPlanOf, Outcome as Executed, Flow as Going}
use Rattle.file_exec.proofs.Reaching.{unbegun_is_reached, reached_stays, taking_tells_more}
use Rattle.txn_core.specs.declared.next_phase.NextPhase.TheVariants.{Gather, Fetch, Grant, Refuse}
use Rattle.txn_core.specs.declared.learned.Learned.TheVariants.{Nothing, Quorum, Content as Given}
use Rattle.suite_collect.specs.Collecting.{Next, next}
use Rattle.txn_core.specs.declared.agent.Doing.{Doing as Coded}
use Rattle.rep_core.specs.declared.reply.Verdict.TheVariants as verdict
use Rattle.file_exec.specs.Known as exec_known
use Rattle.txn_core.specs.code.Hearing as hearing
use Rattle.txn_core.specs.declared.agent.Doing.TheVariants as coded
use Rattle.txn_core.proofs.Kept.{Keeps, keeps_all}
use Rattle.txn_core.proofs.Growing.{GoesOnFrom, more_known, no_less, collects, settles}
use Rattle.txn_core.proofs.Openings.{known_opened}
use Rattle.txn_core.proofs.Setting.{known_at}

-- ---- by what is known

-- of nothing it came so far on whatever is known
pub unbegun_in : (service : Service) (task : Task) (suites : Suites) (reached : Reached) → reached ≡ unbegun → IsReachedIn service task suites reached
unbegun_in service task suites reached is = subst (IsReachedIn service task suites) (sym is) (unbegun_is_reached service (known_of suites) task.t task.caller task.ops)

pub reached_in : (service : Service) (task : Task) (less more : Suites) (reached : Reached) → MoreKnown (known_of less) (known_of more) → IsReachedIn service task less reached → IsReachedIn service task more reached
reached_in service task less more reached is_more is = reached_stays service (known_of less) (known_of more) task.t task.caller task.ops reached is_more is

-- it may be executed again, or will not be
pub reached_at : (phase : Phase) (T : Type 0) → T → IsReachedAt phase T
reached_at phase h1 h2 = search arith

pub unbegun_by : (service : Service) (txn_run : TransactionRun) (reached : Reached) → reached ≡ unbegun → IsReachedBy service txn_run reached
unbegun_by service txn_run reached is = reached_at txn_run.phase (IsReachedIn service txn_run.task txn_run.suites reached) (unbegun_in service txn_run.task txn_run.suites reached is)

-- ---- by the steps of a transaction's run

module _ (service : Service) (reached : Reached) where
  abbrev pub Goes : After TransactionRun → Type 0
  Goes (GoesOn txn_run) = IsReachedBy service txn_run reached
  Goes (Ends ending) = Unit {0}

  pub goes_end : (task : Task) (cache : Cache) (suites : Suites) (v : Verdict) (ending : Ending) (servers : List ℕ) → Goes (tell_end task cache suites v ending servers).after
  goes_end task cache suites v ending servers = search arith

  pub goes_up : (task : Task) (cache : Cache) (suites : Suites) (cause : Cause) → Goes (give_up task cache suites cause).after
  goes_up task cache suites cause = goes_end task cache suites verdict.Aborted (Undecided cause) (locked_at suites)

  pub goes_prepare : (task : Task) (cache : Cache) (suites : Suites) (outcome : Proposal) (servers : List ℕ) → Goes (prepare task cache suites outcome servers).after
  goes_prepare task cache suites outcome servers = search arith

  pub goes_widen : (task : Task) (cache : Cache) (suites : Suites) (granted : Granted) (left : List ℕ) → Goes (widen_all task cache suites granted left).after
  goes_widen task cache suites granted [] = goes_prepare task cache suites (Ok granted) (locked_at suites)
  goes_widen task cache suites granted (number ∷ left) = of (λ suites. goes_widen task cache suites granted left) (suite_of suites number)
    where
      by : ((suites : Suites) → Goes (widen_all task cache suites granted left).after) → (now : Suites) (what : Next)
          → Goes (widen_by task cache now (Widening (number ∷ left) granted) number what (λ suites. widen_all task cache suites granted left)).after
      by h0 now what = search (goes_up, arith)

      of : ((suites : Suites) → Goes (widen_all task cache suites granted left).after) → (found : Option GatheredSuite)
          → Goes (widen_one task cache suites (Widening (number ∷ left) granted) granted.changes number found (λ suites. widen_all task cache suites granted left)).after
      of rest (Some suite) = by rest (with_suite number (widened granted.changes number suite) suites) (next (widened granted.changes number suite).collector)
      of rest None = rest suites

  pub goes_gather : (task : Task) (cache : Cache) (suites : Suites) (number : ℕ) (found : Option GatheredSuite) → IsReachedIn service task suites reached → Goes (gather_again task cache suites number found).after
  goes_gather task cache suites number (Some suite) is = search (goes_up, arith)
  goes_gather task cache suites number None is = is

  pub goes_follow : (task : Task) (cache : Cache) (suites : Suites) (next_phase : NextPhase) → IsReachedIn service task suites reached → Goes (follow task cache suites next_phase).after
  goes_follow task cache suites (Gather number) is = goes_gather task cache suites number (suite_of suites number) is
  goes_follow task cache suites (Fetch number) is = is
  goes_follow task cache suites (Grant granted) is = goes_widen task cache suites granted (to_widen granted.changes)
  goes_follow task cache suites (Refuse refusal) is = goes_prepare task cache suites (Err refusal) (locked_at suites)

  -- once it is not executed any more, it stays so
  abbrev pub IsLate : Phase → Type 0
  IsLate (Gathering number) = ⊥
  IsLate (Fetching number) = ⊥
  IsLate other = Unit {0}

  goes_heard : (task : Task) (cache : Cache) (suites : Suites) (number : ℕ) (left : List ℕ) (granted : Granted) (found : Option GatheredSuite) (server : ℕ) (asked : Request) (said : Reply)
      → Goes (heard_of task cache suites (Widening (number ∷ left) granted) number found server asked said (λ suites. widen_all task cache suites granted left)).after
  goes_heard task cache suites number left granted found server asked said = grind (goes_up, goes_widen, arith)

  goes_prepared : (task : Task) (cache : Cache) (suites : Suites) (outcome : Proposal) (server : ℕ) (left : List ℕ) (b : Bool) → Goes (cond b (prepare task cache suites outcome left) (give_up task cache suites (Lost server))).after
  goes_prepared task cache suites outcome server left b = search (goes_prepare, goes_up, arith)

  pub goes_decided : (task : Task) (cache : Cache) (suites : Suites) (said : Reply) → Goes (decided task cache suites said).after
  goes_decided task cache suites said = goes_end task cache suites (verdict_in said verdict.Aborted) (ending_by (verdict_in said verdict.Aborted) (cause_of_abort said)) (locked_at suites)

  goes_reply : (fixed : Fixed) (task : Task) (cache : Cache) (suites : Suites) (phase : Phase) (server : ℕ) (asked : Request) (said : Reply) → IsLate phase → Goes (after_reply fixed task cache suites phase server asked said).after
  goes_reply fixed task cache suites (Gathering number) server asked said late = absurd late
  goes_reply fixed task cache suites (Fetching number) server asked said late = absurd late
  goes_reply fixed task cache suites (Widening [] granted) server asked said late = goes_up task cache suites (Lost server)
  goes_reply fixed task cache suites (Widening (number ∷ left) granted) server asked said late = goes_heard task cache suites number left granted (suite_of suites number) server asked said
  goes_reply fixed task cache suites (Preparing [] outcome) server asked said late = goes_up task cache suites (Lost server)
  goes_reply fixed task cache suites (Preparing (now ∷ left) outcome) server asked said late = goes_prepared task cache suites outcome server left (is_prepared said)
  goes_reply fixed task cache suites (Deciding outcome) server asked said late = goes_decided task cache suites said
  goes_reply fixed task cache suites (Finishing [] v ending) server asked said late = goes_end task cache suites v ending []
  goes_reply fixed task cache suites (Finishing (now ∷ left) v ending) server asked said late = goes_end task cache suites v ending left

  goes_taken : (fixed : Fixed) (txn_run : TransactionRun) (cache : Cache) (asked : Option (ℕ × Request)) (said : Reply) → IsLate txn_run.phase → Goes (taken fixed txn_run cache asked (Replied said)).after
  goes_taken fixed txn_run cache (Some asked) said late = goes_reply fixed txn_run.task cache txn_run.suites txn_run.phase asked.0 asked.1 said late
  goes_taken fixed txn_run cache None said late = search arith

  -- so it is where the step is done, unless there is an ending
  pub goes_unless : (step : Step) (flow : Going) (txn_run : TransactionRun) (cache : Cache) → Goes step.after → GoesBy step flow txn_run cache → IsReachedUnless flow service txn_run reached
  goes_unless step flow txn_run cache h4 h5 = search arith

  pub follows_unless : (task : Task) (suites : Suites) (next_phase : NextPhase) (flow : Going) (txn_run : TransactionRun) → IsReachedIn service task suites reached
      → ((cache : Cache) → GoesBy (follow task cache suites next_phase) flow txn_run cache)
      → IsReachedUnless flow service txn_run reached
  follows_unless task suites next_phase flow txn_run is steps = goes_unless (follow task [] suites next_phase) flow txn_run [] (goes_follow task [] suites next_phase is) (steps [])

  pub gives_up : (task : Task) (suites : Suites) (cause : Cause) (flow : Going) (txn_run : TransactionRun) → ((cache : Cache) → GoesBy (give_up task cache suites cause) flow txn_run cache) → IsReachedUnless flow service txn_run reached
  gives_up task suites cause flow txn_run steps = goes_unless (give_up task [] suites cause) flow txn_run [] (goes_up task [] suites cause) (steps [])

  pub late : (fixed : Fixed) (before : TransactionRun) (asked : Option (ℕ × Request)) (said : Reply) (flow : Going) (after : TransactionRun) (cache then' : Cache) (phase : Phase) → before.phase ≡ phase → IsLate phase
      → GoesBy (taken fixed before cache asked (Replied said)) flow after then' → IsReachedUnless flow service after reached
  late fixed before asked said flow after cache then' phase is past steps =
      goes_unless (taken fixed before cache asked (Replied said)) flow after then' (goes_taken fixed before cache asked said (subst IsLate (sym is) past)) steps

-- ---- by what is told

-- a suite that asks on, or of which nobody is left to ask, was told something
pub asks_on : (suite new : GatheredSuite) (said : Reply) → heard suite said ≡ hearing.Asks new → new ≡ record suite { collector = new.collector }
asks_on suite new said = search arith

pub falls_short : (suite new : GatheredSuite) (said : Reply) (got needed : ℕ) (busy : Option (ℕ × ℕ)) → heard suite said ≡ hearing.Short new got needed busy → new ≡ record suite { collector = new.collector }
falls_short suite new said got needed busy = search arith

-- ---- by a plan

-- a suite that is asked for has no quorum yet, and of one that is raised what it gave stays
asked_more : (fixed : Fixed) (task : Task) (all more : Gathered) → Keeps all more → IsOrdered nat_cmp all.suites → (outcome : Executed) (new : Option GatheredSuite) → new ≡ new_for fixed task all outcome
    → MoreKnown (known_of more.suites) (known_of (with_asked outcome new more.suites))
asked_more fixed task all more h4 h5 outcome new h8 = search (more_known, none-some, collects, same_Some, false≢true, no_less, arith)

-- where it was planned with the cache as it would be, and then carried out
pub reached_carried : (service : Service) (reached : Reached) (fixed : Fixed) (task : Task) (before put : Limited) (suites room after : Suites) (seen fetched : Option Fetched) (plan : Plan)
    → IsPlanOf fixed task (record { suites = suites; cache = shelved before seen }) plan → seen ≡ fetched → put ≡ record before { entries = shelved before fetched } → room ≡ suites → IsOrdered nat_cmp suites
    → after ≡ (carried_out task plan (record { suites = room; cache = put.entries })).suites
    → IsReachedIn service task (opened_all task plan.opened.items (record { suites = suites; cache = shelved before seen })).suites reached → IsReachedIn service task after reached
reached_carried service reached fixed task before put suites room after seen fetched plan is same is_put roomy ordered after_is reaches =
    let all : Gathered = record { suites = suites; cache = shelved before seen } in
    let more = opened_all task plan.opened.items all in
    let kept : put.entries ≡ shelved before seen = ap (λ (l : Limited). l.entries) is_put ∙ ap (shelved before) (sym same) in
    let now : record { suites = room; cache = put.entries } ≡ all = λ i. record { suites = roomy i; cache = kept i } in
    subst (λ suites. IsReachedIn service task suites reached) (sym (after_is ∙ ap (λ g. (carried_out task plan g).suites) now))
    (reached_in service task more.suites (with_asked plan.outcome plan.new more.suites) reached
    (asked_more fixed task all more (keeps_all task plan.opened.items all) ordered plan.outcome plan.new is.new) reaches)

-- ---- by a reply, and by a content

module _ (service : Service) (reached : Reached) where
  pub reached_asks : (before after : TransactionRun) (number : ℕ) (suite new : GatheredSuite) (said : Reply) → IsOrdered nat_cmp before.suites → suite_of before.suites number ≡ Some suite → heard suite said ≡ hearing.Asks new
      → after ≡ record before { suites = with_suite number new before.suites } → IsReachedIn service before.task before.suites reached → IsReachedIn service after.task after.suites reached
  reached_asks before after number suite new said ordered there asks put is =
      subst (λ (txn_run : TransactionRun). IsReachedIn service txn_run.task txn_run.suites reached) (sym put)
      (reached_in service before.task before.suites (with_suite number new before.suites) reached
      (more_known before.suites number new ordered (λ one found. collects one new (asks_on suite new said asks ∙ ap (λ (suite : GatheredSuite). record suite { collector = new.collector }) (same_Some suite one (sym there ∙ found))))) is)

  pub reached_short : (before after : TransactionRun) (number : ℕ) (suite new : GatheredSuite) (said : Reply) → IsOrdered nat_cmp before.suites → suite_of before.suites number ≡ Some suite → FallsShort (heard suite said) new
      → after ≡ record before { suites = with_suite number new before.suites } → IsReachedIn service before.task before.suites reached → IsReachedIn service after.task after.suites reached
  reached_short before after number suite new said ordered there short put is =
      subst (λ (txn_run : TransactionRun). IsReachedIn service txn_run.task txn_run.suites reached) (sym put)
      (reached_in service before.task before.suites (with_suite number new before.suites) reached
      (more_known before.suites number new ordered
      (λ one found. collects one new (falls_short suite new said short.0 short.1 short.2 short.4 ∙ ap (λ (suite : GatheredSuite). record suite { collector = new.collector })
      (same_Some suite one (sym there ∙ found))))) is)

  -- a suite is settled that had no quorum, or gets one in its mode or a stronger one
  pub reached_settled : (task : Task) (suites : Suites) (number : ℕ) (pending : PendingQuorum) → IsOrdered nat_cmp suites → ((suite : GatheredSuite) → suite_of suites number ≡ Some suite → GoesOnFrom suite (settled_with pending suite))
      → IsReachedIn service task suites reached → IsReachedIn service task (changed_at (settled_with pending) number (suite_of suites number) suites) reached
  reached_settled task suites number pending ordered flow is = of (suite_of suites number) refl
    where
      of : (found : Option GatheredSuite) → suite_of suites number ≡ found → IsReachedIn service task (changed_at (settled_with pending) number found suites) reached
      of (Some suite) there =
          let new : GatheredSuite = settled_with pending suite in
          reached_in service task suites (with_suite number new suites) reached
          (more_known suites number new ordered (λ one found. subst (λ one. GoesOnFrom one new) (same_Some suite one (sym there ∙ found)) (flow suite there))) is
      of None there = is

  -- a suite gets a content that it takes
  pub reached_given : (task : Task) (suites now : Suites) (number : ℕ) (content : Content) → IsOrdered nat_cmp suites → takes_in (suite_of suites number) content ≡ true
      → now ≡ changed_at (with_content content) number (suite_of suites number) suites
      → IsReachedIn service task suites reached → IsReachedIn service task now reached
  reached_given task suites now number content ordered may given is = of (suite_of suites number) refl may given
    where
      had : (suite : GatheredSuite) (first : Option ReadPoint) → suite_of suites number ≡ Some suite → suite.first ≡ first → takes (option_map (known_row suite) first) content ≡ true
          → now ≡ with_suite number (record suite { content = Some content }) suites → IsReachedIn service task now reached
      had suite (Some first) there was may given =
          let opens = taking_tells_more (known_of suites) number content (ap (λ held. takes held content) (known_at suites number suite first there was) ∙ may) in
          let more = with_suite number (record suite { content = Some content }) suites in
          subst (λ suites. IsReachedIn service task suites reached) (sym given)
          (reached_in service task suites more reached (subst (MoreKnown (known_of suites)) (known_opened suites number suite first content ordered there was) opens) is)
      had suite None there was may given = cc

      of : (found : Option GatheredSuite) → suite_of suites number ≡ found → takes_in found content ≡ true → now ≡ changed_at (with_content content) number found suites → IsReachedIn service task now reached
      of found h1 h2 h3 = search (had, arith)

-- something was learned by which more is known
pub reached_learned : (service : Service) (reached : Reached) (task : Task) (suites : Suites) (just_learned : Learned) → IsOrdered nat_cmp suites → adds just_learned suites ≡ true
    → IsReachedIn service task suites reached → IsReachedIn service task (learned_suites just_learned suites) reached
reached_learned service reached task suites Nothing ordered may is = is
reached_learned service reached task suites (Quorum number pending) ordered may is =
    reached_settled service reached task suites number pending ordered (λ suite there. settles pending suite (sym (ap goes_on there) ∙ may)) is
reached_learned service reached task suites (Given fetched) ordered may is = search (reached_given, arith)

-- ---- by an execution

pub reached_opened : (known more : Knowledge) (task : Task) (reached : Reached) (number : ℕ) (content : Content) → more.service ≡ known.service → more.suites ≡ opened_suite known.suites number content
    → takes (exec_known.known_of known.suites number) content ≡ true → IsReachedOn known task reached → IsReachedOn more task reached
reached_opened known more task reached number content service suites may is =
    subst (λ service. IsReached service more.suites task.t task.caller task.ops reached) (sym service)
    (subst (λ suites. IsReached known.service suites task.t task.caller task.ops reached) (sym suites)
    (reached_stays known.service known.suites (opened_suite known.suites number content) task.t task.caller task.ops reached (taking_tells_more known.suites number content may) is))

pub unbegun_on : (known : Knowledge) (task : Task) (reached : Reached) → reached ≡ unbegun → IsReachedOn known task reached
unbegun_on known task reached is = subst (IsReachedOn known task) (sym is) (unbegun_is_reached known.service known.suites task.t task.caller task.ops)

pub reached_as : (known : Knowledge) (service : Service) (suites : Suites) (task : Task) (reached : Reached) → known ≡ record { service = service; suites = known_of suites }
    → IsReachedOn known task reached → IsReachedIn service task suites reached
reached_as known service suites task reached is on = subst (λ known. IsReachedOn known task reached) is on

pub reached_from : (known : Knowledge) (service : Service) (suites : Suites) (task : Task) (reached : Reached) → known ≡ record { service = service; suites = known_of suites }
    → IsReachedIn service task suites reached → IsReachedOn known task reached
reached_from known service suites task reached is in' = subst (λ known. IsReachedOn known task reached) (sym is) in'

-- ---- by an agent

pub reaches_begun : {P : TransactionRun → Coded → Type 0} (service : Service) (reached : Reached) (begun : Option TransactionRun) (doing : Option Coded)
    → MatchOption begun (doing ≡ None) (λ txn_run. IsSomeAnd doing (P txn_run)) → ((txn_run : TransactionRun) (doing : Coded) → P txn_run doing → doing ≡ coded.Running txn_run)
    → IsReachedIf begun service reached → Reaches doing service reached
reaches_begun service reached begun doing h4 h5 h6 = search arith

-- nothing is carried out
pub reaches_idle : (service : Service) (reached : Reached) (doing : Option Coded) → is_idle (option_map doing_of doing) ≡ true → Reaches doing service reached
reaches_idle service reached doing h3 = search arith
