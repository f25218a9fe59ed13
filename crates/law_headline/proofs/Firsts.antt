-- Each first Current of a suite that a transaction gathers was given by its collector.
use Rattle.law_headline.proofs.Vocabulary.{◌≡◌, ◌+◌, ◌++◌, append_assoc, ℕ, zero, suc, true, false, cond, inl, inr, List, [], ◌∷◌, Option, Some, None, Ok, Err, refl, sym, ap, subst, ◌∙◌, append-nil, ◌&&◌, ◌*◌, nat_lt, arith, false≢true, same_Some}
use Rattle.law_headline.proofs.Vocabulary.{Content, Prefix, LockMode, Request, Reply, Verdict, Cache, ReadPoint, GatheredSuite, Suites, suite_of, with_suite, first_or, settled, source_of, Response, Replied, Lacked, Cause, Lost, Ending, Granted}
use Rattle.law_headline.proofs.Vocabulary.{Fixed, Task, Proposal, Phase, Gathering, Fetching, Widening, Preparing, Deciding, Finishing, Changes, TransactionRun, SweepRun, Doing, Running, RunningSweep, After, GoesOn, Ends, Job, Transaction, Sweep}
use Rattle.law_headline.proofs.Vocabulary.{Agent, next_in, take_in, begin, started, is_idle, has_sense, max_jobs, after_all, left, IdleOr, Hears, narrow_of}
use Rattle.file_exec.specs.declared.need.Need.TheVariants.{Know, Hold}
use Rattle.suite_collect.specs.declared.told.Said.{Said}
use Rattle.suite_collect.specs.Collecting.{Collector, all_told, told_since, tell_at, tell, mode_of, Next, Ask, Current, Short, next}
use Rattle.txn_core.proofs.Gathers.{Each, each_but, each_with, tell_start}
use Rattle.law_run_knowledge.proofs.Walk.{IsNarrow}
use Rattle.law_run_quorums.specs.Firsts.{FirstFrom, early_collector}
use Rattle.rep_core.specs.declared.stamped.Lack.{Lack}
use Rattle.file_exec.specs.declared.executor.Outcome.{Outcome as Executed}
use Rattle.txn_core.specs.Transactions.{Step, Gathered, tell_end, give_up, prepare, locked_at, short_cause, gather_by, widen_by, widen_one, widened, widen_all, opened, or_all, open_needed, open_suite, open_first, opened_with}
use Rattle.txn_core.specs.Transactions.{heard_on, raised_or_new, keep_content, heard_of, said_to, proceed, execute, collected, hear, fetched, after_lack, after_response, given_in, lack_cause}
use Rattle.txn_core.specs.Agents.{Event}
use Rattle.txn_core.proofs.Upheld.{after-append}
use Rattle.file_exec.specs.declared.executor.Outcome.TheVariants as exec
use Rattle.suite_collect.specs.declared.told.Told as collect
-- a suite whose content is fetched has one of a version above 0
use Rattle.txn_core.specs.Sweeps as sweep

abbrev pub FirstIs : GatheredSuite → Type 0
FirstIs suite = (first : ReadPoint) → suite.first ≡ Some first → FirstFrom suite first

abbrev pub AllFirst : Suites → Type 0
AllFirst suites = Each (λ number suite. FirstIs suite) suites

abbrev AfterFirst : After TransactionRun → Type 0
AfterFirst (GoesOn txn_run) = AllFirst txn_run.suites
AfterFirst (Ends ending) = Unit {0}

abbrev Firsts : Step → Type 0
Firsts step = AfterFirst step.after

tell_narrow : (one : collect.Told) (c : Collector) → c.widening ≡ None → (tell one c).widening ≡ None
tell_narrow one c narrow = ap (λ w. (tell_at w one c).widening) narrow ∙ narrow

with_first : (number : ℕ) (suite : GatheredSuite) (suites : Suites) → AllFirst suites → FirstIs suite → AllFirst (with_suite number suite suites)
with_first number suite suites all own = each_with (λ number suite. FirstIs suite) number suites suite (each_but (λ number suite. FirstIs suite) number suites all) own

tell_all : (one : collect.Told) (c : Collector) → all_told (tell one c) ≡ one ∷ all_told c
tell_all one c = search arith

told_first : (one : collect.Told) (suite : GatheredSuite) → FirstIs suite → FirstIs (record suite { collector = tell one suite.collector })
told_first one suite was first is =
    let from = was first is in
    record {
      mode = from.mode;
      members = from.members;
      earlier = from.earlier;
      later = one ∷ from.later;
      parts = tell_all one suite.collector ∙ ap (λ told. one ∷ told) from.parts;
      gave = subst (λ start. next (early_collector start from.mode from.earlier) ≡ Current first.prefix first.dver from.members) (sym (tell_start one suite.collector)) from.gave;
    }

widened_first : (changes : Changes) (number : ℕ) (suite : GatheredSuite) → FirstIs suite → FirstIs (widened changes number suite)
widened_first changes number suite was first is = let from = was first is in record { mode = from.mode; members = from.members; earlier = from.earlier; later = from.later; parts = from.parts; gave = from.gave }

content_first : (suite : GatheredSuite) (content : Option Content) → FirstIs suite → FirstIs (record suite { content = content })
content_first suite content was first is = let from = was first is in record { mode = from.mode; members = from.members; earlier = from.earlier; later = from.later; parts = from.parts; gave = from.gave }

settled_first : (prefix : Prefix) (dver : ℕ) (members : List ℕ) (suite : GatheredSuite) → IsNarrow suite → next suite.collector ≡ Current prefix dver members → FirstIs suite → FirstIs (settled prefix dver members suite)
settled_first prefix dver members suite narrow is was = of suite.first refl
  where
    new : ReadPoint
    new = record { prefix = prefix; dver = dver; source = source_of suite.collector dver members }

    new_from : suite.collector.widening ≡ None → FirstFrom (settled prefix dver members suite) new
    new_from none = record {
      mode = suite.collector.mode;
      members = members;
      earlier = suite.collector.told;
      later = [];
      parts = ap (λ w. told_since w ++ suite.collector.told) none;
      gave = sym (ap (λ w. next (record { start = suite.collector.start; mode = suite.collector.mode; told = suite.collector.told; widening = w })) none) ∙ is;
    }

    of : (o : Option ReadPoint) → suite.first ≡ o → FirstIs (settled prefix dver members suite)
    of (Some old) had first same =
        let from = was first (had ∙ (ap (λ o. first_or o new) (sym had) ∙ same)) in
        record { mode = from.mode; members = from.members; earlier = from.earlier; later = from.later; parts = from.parts; gave = from.gave }
    of None had first same = subst (FirstFrom (settled prefix dver members suite)) (same_Some new first (ap (λ o. first_or o new) (sym had) ∙ same)) (new_from (narrow had))

-- ---- steps

module _ (fixed : Fixed) (task : Task) where
  first_end : (cache : Cache) (suites : Suites) (v : Verdict) (ending : Ending) (servers : List ℕ) → AllFirst suites → Firsts (tell_end task cache suites v ending servers)
  first_end cache suites v ending servers h5 = search arith

  first_give_up : (cache : Cache) (suites : Suites) (cause : Cause) → AllFirst suites → Firsts (give_up task cache suites cause)
  first_give_up cache suites cause all = first_end cache suites _ _ (locked_at suites) all

  first_prepare : (cache : Cache) (suites : Suites) (outcome : Proposal) (servers : List ℕ) → AllFirst suites → Firsts (prepare task cache suites outcome servers)
  first_prepare cache suites outcome servers h4 = search arith

  first_gather : (cache : Cache) (suites : Suites) (number : ℕ) (next : Next) → AllFirst suites → Firsts (gather_by task cache suites number next)
  first_gather cache suites number next h4 = search (first_give_up, arith)

  first_widen_by : (cache : Cache) (suites : Suites) (left : List ℕ) (granted : Granted) (number : ℕ) (next : Next) (go_on : Suites → Step) → AllFirst suites
      → ((suites : Suites) → AllFirst suites → Firsts (go_on suites)) → Firsts (widen_by task cache suites (Widening left granted) number next go_on)
  first_widen_by cache suites left granted number next go_on h7 h8 = search (first_give_up, arith)

  first_widen_one : (cache : Cache) (suites : Suites) (left : List ℕ) (granted : Granted) (number : ℕ) (found : Option GatheredSuite) (go_on : Suites → Step)
      → suite_of suites number ≡ found → AllFirst suites → ((suites : Suites) → AllFirst suites → Firsts (go_on suites))
      → Firsts (widen_one task cache suites (Widening left granted) granted.changes number found go_on)
  first_widen_one cache suites left granted number (Some suite) go_on there all more = search (first_widen_by, with_first, widened_first, arith)
  first_widen_one cache suites left granted number None go_on there all more = more suites all

  first_widen : (cache : Cache) (suites : Suites) (granted : Granted) (left : List ℕ) → AllFirst suites → Firsts (widen_all task cache suites granted left)
  first_widen cache suites granted [] all = first_prepare cache suites (Ok granted) (locked_at suites) all
  first_widen cache suites granted (number ∷ left) all =
      first_widen_one cache suites (number ∷ left) granted number (suite_of suites number) _ refl all (λ suites all. first_widen cache suites granted left all)

  first_raised : (cache : Cache) (number : ℕ) (mode : LockMode) (found : Option GatheredSuite) → ((suite : GatheredSuite) → found ≡ Some suite → FirstIs suite) → FirstIs (raised_or_new fixed task cache number mode found)
  first_raised cache number mode (Some suite) each first is = let from = each suite refl first is in record { mode = from.mode; members = from.members; earlier = from.earlier; later = from.later; parts = from.parts; gave = from.gave }
  first_raised cache number mode None each first is = absurd cc

  first_proceed : (cache : Cache) (suites : Suites) (heard : Executed) → AllFirst suites → Firsts (proceed fixed task cache suites heard)
  first_proceed cache suites (exec.Need (Hold number mode)) all = search (first_gather, with_first, first_raised, arith)
  first_proceed cache suites (exec.Need (Know number)) all = all
  first_proceed cache suites (exec.Done answers changes) all = first_widen cache suites (record { answers = answers; changes = changes }) _ all
  first_proceed cache suites (exec.Refused refusal) all = first_prepare cache suites (Err refusal) (locked_at suites) all

  module _ (all : Gathered) (firsts : AllFirst all.suites) where
    with_content : (number : ℕ) (suite : GatheredSuite) (first : ReadPoint) (content : Option Content) (more : Gathered) → suite_of all.suites number ≡ Some suite
        → opened_with task all number suite first content ≡ Some more → AllFirst more.suites
    with_content number suite first (Some content) more there is = grind (same_Some, with_first, content_first, arith)
    with_content number suite first None more there is = cc

    at_first : (number : ℕ) (suite : GatheredSuite) (first : Option ReadPoint) (more : Gathered) → suite_of all.suites number ≡ Some suite → open_first task all number suite first ≡ Some more → AllFirst more.suites
    at_first number suite first more h4 h5 = search (with_content, arith)

    at_suite : (number : ℕ) (found : Option GatheredSuite) (more : Gathered) → suite_of all.suites number ≡ found → open_suite task all number found ≡ Some more → AllFirst more.suites
    at_suite number found more h3 h4 = search (at_first, arith)

    needed_first : (heard : Executed) (more : Gathered) → open_needed task all heard ≡ Some more → AllFirst more.suites
    needed_first heard more h2 = search (at_suite, arith)

  opened_first : (n : ℕ) (all : Gathered) → AllFirst all.suites → AllFirst (opened n fixed task all).suites
  opened_first zero all firsts = firsts
  opened_first (suc n) all firsts = of (open_needed task all (heard_on fixed task all.suites)) refl (λ more firsts. opened_first n more firsts)
    where
      of : (found : Option Gathered) → open_needed task all (heard_on fixed task all.suites) ≡ found
          → ((more : Gathered) → AllFirst more.suites → AllFirst (opened n fixed task more).suites) → AllFirst (or_all all found (λ all. opened n fixed task all)).suites
      of (Some more) is later = later more (needed_first all firsts (heard_on fixed task all.suites) more is)
      of None is later = firsts

  first_execute : (all : Gathered) → AllFirst all.suites → Firsts (execute fixed task all)
  first_execute all firsts = search (first_proceed, opened_first, arith)

  -- ---- replies

  first_heard : (cache : Cache) (suites : Suites) (phase : Phase) (number : ℕ) (found : Option GatheredSuite) (server : ℕ) (asked : Request) (said : Reply) (go_on : Suites → Step) → suite_of suites number ≡ found
      → ((suite : GatheredSuite) → suite_of suites number ≡ Some suite → IsNarrow suite) → AllFirst suites → ((suites : Suites) → AllFirst suites → Firsts (go_on suites))
      → Firsts (heard_of task cache suites phase number found server asked said go_on)
  first_heard cache suites phase number None server asked said go_on there narrow all more = first_give_up cache suites (Lost server) all
  first_heard cache suites phase number (Some suite) server asked said go_on there narrow all more = of (said_to asked said)
    where
      at : (now : GatheredSuite) (after : Next) → FirstIs now → IsNarrow now → next now.collector ≡ after → Firsts (collected task cache suites phase number now after (λ suite. go_on (with_suite number suite suites)))
      at now (Ask who what) own narrow_now is = with_first number now suites all own
      at now (Short got needed busy) own narrow_now is = first_give_up cache (with_suite number now suites) (short_cause number got needed busy) (with_first number now suites all own)
      at now (Current prefix dver members) own narrow_now is =
          more (with_suite number (settled prefix dver members now) suites) (with_first number (settled prefix dver members now) suites all (settled_first prefix dver members now narrow_now is own))

      of : (heard : Option Said) → Firsts (hear task cache suites phase number suite server asked heard (λ suite. go_on (with_suite number suite suites)))
      of None = first_give_up cache suites (Lost server) all
      of (Some heard) =
          let one : collect.Told = record { server = server; mode = mode_of asked; said = heard } in
          let now : GatheredSuite = record suite { collector = tell one suite.collector } in
          at now (next now.collector) (told_first one suite (all number suite there)) (λ none. tell_narrow one suite.collector (narrow suite there none)) refl

  first_fetched : (cache : Cache) (suites : Suites) (number : ℕ) (server : ℕ) (found : Option GatheredSuite) (content : Option Content) → suite_of suites number ≡ found
      → AllFirst suites → Firsts (fetched fixed task cache suites number found server content)
  first_fetched cache suites number server (Some suite) (Some content) there all = keeps suite.first
    where
      keeps : (first : Option ReadPoint) → Firsts (keep_content fixed task cache suites number suite content first server)
      keeps None = first_give_up cache suites (Lost server) all
      keeps (Some first) = first_execute _ (with_first number (record suite { content = Some content }) suites all (content_first suite (Some content) (all number suite there)))
  first_fetched cache suites number server (Some suite) None there all = first_give_up cache suites (Lost server) all
  first_fetched cache suites number server None (Some content) there all = first_give_up cache suites (Lost server) all
  first_fetched cache suites number server None None there all = first_give_up cache suites (Lost server) all

  first_lack : (cache : Cache) (suites : Suites) (phase : Phase) (server : ℕ) (lacked : Lack) → AllFirst suites → Firsts (after_lack task cache suites phase server lacked)
  first_lack cache suites (Finishing [] v ending) server lacked all = tt
  first_lack cache suites (Finishing (now ∷ left) v ending) server lacked all = first_end cache suites v ending left all
  first_lack cache suites other server lacked all = first_give_up cache suites (lack_cause server lacked) all

  first_word : (cache : Cache) (suites : Suites) (phase : Phase) (server : ℕ) (asked : Request) (response : Response)
      → ((number : ℕ) → Hears phase number → (suite : GatheredSuite) → suite_of suites number ≡ Some suite → IsNarrow suite) → AllFirst suites
      → Firsts (after_response fixed (record { task = task; suites = suites; phase = phase }) cache server asked response)
  first_word cache suites phase server asked (Lacked lacked) narrow all = first_lack cache suites phase server lacked all
  first_word cache suites (Gathering number) server asked (Replied said) narrow all =
      first_heard cache suites (Gathering number) number (suite_of suites number) server asked said _ refl (narrow number (inl refl)) all (λ suites all. first_execute (record { suites = suites; cache = cache }) all)
  first_word cache suites (Fetching number) server asked (Replied said) narrow all = first_fetched cache suites number server (suite_of suites number) (given_in said) refl all
  first_word cache suites (Widening [] granted) server asked (Replied said) narrow all = first_give_up cache suites (Lost server) all
  first_word cache suites (Widening (number ∷ left) granted) server asked (Replied said) narrow all =
      first_heard cache suites (Widening (number ∷ left) granted) number (suite_of suites number) server asked said _ refl (narrow number (inr (left, granted, refl))) all (λ suites all. first_widen cache suites granted left all)
  first_word cache suites (Preparing [] outcome) server asked (Replied said) narrow all = first_give_up cache suites (Lost server) all
  first_word cache suites (Preparing (now ∷ left) outcome) server asked (Replied said) narrow all = search (first_prepare, first_give_up, arith)
  first_word cache suites (Deciding outcome) server asked (Replied said) narrow all = search (first_end, arith)
  first_word cache suites (Finishing [] v ending) server asked (Replied said) narrow all = tt
  first_word cache suites (Finishing (now ∷ left) v ending) server asked (Replied said) narrow all = first_end cache suites v ending left all

-- ---- agents

abbrev DoingFirst : Option Doing → Type 0
DoingFirst (Some (Running txn_run)) = AllFirst txn_run.suites
DoingFirst (Some (RunningSweep sweep_run)) = Unit {0}
DoingFirst None = Unit {0}

left_first : (after : After TransactionRun) → AfterFirst after → DoingFirst (left Running after)
left_first after h1 = search arith

round_first : (after : After SweepRun) → DoingFirst (left RunningSweep after)
round_first after = search arith

take_first : (fixed : Fixed) (agent : Agent) (response : Response) → IdleOr fixed agent → (doing : Option Doing) (asked : Option (ℕ × Request)) → agent.doing ≡ doing
    → next_in fixed doing ≡ asked → DoingFirst doing → DoingFirst agent.doing → DoingFirst (take_in fixed agent response doing asked).agent.doing
take_first fixed agent response job (Some (Running running)) (Some asked) was is all same =
    left_first _ (first_word fixed running.task agent.cache running.suites running.phase asked.0 asked.1 response (narrow_of fixed agent job running was asked is) all)
take_first fixed agent response job (Some (Running running)) None was is all same = same
take_first fixed agent response job (Some (RunningSweep sweep_run)) (Some asked) was is all same = round_first (sweep.after_response fixed.service sweep_run asked.0 response)
take_first fixed agent response job (Some (RunningSweep sweep_run)) None was is all same = same
take_first fixed agent response job None (Some asked) was is all same = same
take_first fixed agent response job None None was is all same = same

idle_first : (doing : Option Doing) → is_idle doing ≡ true → DoingFirst doing
idle_first doing h1 = search arith

begin_first : (fixed : Fixed) (agent : Agent) (job : Job) → is_idle agent.doing ≡ true → DoingFirst (begin fixed agent job).doing
begin_first fixed agent job idle =
    elim (is_idle agent.doing && has_sense fixed job && nat_lt agent.count max_jobs) as (λ b. DoingFirst (cond b (record (started fixed agent job) { count = agent.count + 1 }) agent).doing) [
      | true ↦ of job
      | false ↦ idle_first agent.doing idle
    ]
  where
    of : (job : Job) → DoingFirst (started fixed agent job).doing
    of (Transaction caller site ops) =
        left_first _ (first_execute fixed (record { t = 64 * agent.count + agent.index; caller = caller; site = site; ops = ops }) (record { suites = []; cache = agent.cache }) (λ number suite there. cc))
    of (Sweep server) = tt

module _ (fixed : Fixed) (agent : Agent) (job : Job) (idle : is_idle agent.doing ≡ true) where
  abbrev now : List Event → Agent
  now events = after_all fixed (begin fixed agent job) events

  one_first : (events : List Event) (event : Event) → DoingFirst (now events).doing → DoingFirst (now (events ++ event ∷ [])).doing
  one_first events event h2 = search (after-append, take_first, arith)

  all_first : (events more : List Event) → DoingFirst (now events).doing → DoingFirst (now (events ++ more)).doing
  all_first events [] all = subst (λ events. DoingFirst (now events).doing) (sym (append-nil events)) all
  all_first events (event ∷ more) all = subst (λ events. DoingFirst (now events).doing) (append_assoc events (event ∷ []) more) (all_first (events ++ event ∷ []) more (one_first events event all))

-- of every agent of a job
pub firsts_given : (fixed : Fixed) (agent : Agent) → IdleOr fixed agent → (txn_run : TransactionRun) → agent.doing ≡ Some (Running txn_run) → AllFirst txn_run.suites
firsts_given fixed agent (inl idle) txn_run running = absurd (false≢true (ap is_idle (sym running) ∙ idle))
firsts_given fixed agent (inr is) txn_run running = subst DoingFirst (ap (λ (agent : Agent). agent.doing) (sym is.is) ∙ running) (all_first fixed is.before is.job is.idle [] is.told (begin_first fixed is.before is.job is.idle))
