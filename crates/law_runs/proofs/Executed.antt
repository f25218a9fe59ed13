-- What a transaction is to be decided with is what the executor came to on what is known.
use Rattle.law_runs.proofs.Vocabulary.{◌≡◌, ℕ, zero, suc, true, List, [], ◌∷◌, Option, Some, None, refl, sym, subst, is_some, Result, Ok, Err, serves, Answer, Refusal, Row, Request, Reply, Verdict, arith, Ended, MoreKnown, more_known_changes_nothing}
use Rattle.law_runs.proofs.Vocabulary.{Cache, ReadPoint, GatheredSuite, Suites, suite_of, with_suite, known_of, settled, first_or, Response, Replied, Lacked, Cause, Lost, Ending, Undecided, Changes, Granted, Fixed, Task, Proposal, Phase, Gathering}
use Rattle.law_runs.proofs.Vocabulary.{Fetching, Widening, Preparing, Deciding, Finishing, TransactionRun, After, GoesOn, Ends, serves_itself}
use Rattle.file_exec.specs.declared.need.Need.TheVariants.{Hold, Know}
use Rattle.suite_content.specs.declared.content.Content.{Content}
use Rattle.suite_prefix.specs.declared.copies.Prefix.{Prefix}
use Rattle.suite_prefix.specs.declared.lock_mode.LockMode.{LockMode}
use Rattle.file_exec.specs.Known.{Known, AgreesWith, Done, exec_of}
use Rattle.suite_collect.specs.declared.told.Told.{Told}
use Rattle.suite_collect.specs.declared.told.Said.{Said}
use Rattle.suite_collect.specs.Collecting.{Collector, tell, tell_at, Next, Ask, Current, Short, next, Widening as Wider}
use Rattle.file_exec.specs.declared.executor.Outcome.{Outcome as Executed}
use Rattle.txn_core.specs.Transactions.{Step, changes_of, Gathered, tell_end, give_up, prepare, locked_at, short_cause, gather_by, widen_by, widen_one, widened, widen_all, to_widen, opened, or_all, open_needed, open_suite, open_first}
use Rattle.txn_core.specs.Transactions.{opened_with, heard_on, raised_or_new, keep_content, heard_of, said_to, proceed, execute, collected, hear, fetched, prepared, after_response, given_in, lack_cause}
use Rattle.rep_core.specs.declared.reply.Verdict.TheVariants as verdict
use Rattle.file_exec.specs.declared.executor.Outcome.TheVariants as exec
use Rattle.file_exec.specs.Changes as changes
use Rattle.file_exec.specs.Known as known
use Rattle.law_runs.proofs.Standing.{Answer'}
use Rattle.law_runs.proofs.Knowing.{AreFit, with_fit, more_after}

-- ---- what the executor came to

abbrev pub given_by : Result (Ended (List Answer)) Refusal → Answer'
given_by (Ok ended) = Ok ended.given
given_by (Err refusal) = Err refusal

-- what a result sets, by what was known
abbrev pub set_by : Known → Result (Ended (List Answer)) Refusal → Changes
set_by known (Ok ended) = changes.changes_of known ended.edits
set_by known (Err refusal) = []

abbrev pub answer_as : Proposal → Answer'
answer_as (Ok granted) = Ok granted.answers
answer_as (Err refusal) = Err refusal

-- what was known before is known still, and agrees with each table with which what is known now agrees
pub record IsStill (before now : Known) : Type 0 where
  pub agrees : (rows : ℕ → Option Row) → AgreesWith now rows → AgreesWith before rows
  pub knows : (suite : ℕ) → is_some (known.known_of before suite) ≡ true → is_some (known.known_of now suite) ≡ true

still_more : (before less more : Known) → MoreKnown less more → IsStill before less → IsStill before more
still_more before less more goes still = search arith

-- On what is known of these suites the executor is done, with this outcome; what it sets it said when it was done first, on what was known then.
pub record Came (fixed : Fixed) (task : Task) (suites : Suites) (outcome : Proposal) : Type 0 where
  pub fit : AreFit suites
  pub result : Result (Ended (List Answer)) Refusal
  pub is : exec_of fixed.service (known_of suites) task.t task.caller task.ops ≡ Done result
  pub answered : answer_as outcome ≡ given_by result
  pub before : Known
  pub still : IsStill before (known_of suites)
  pub was : exec_of fixed.service before task.t task.caller task.ops ≡ Done result
  pub set : changes_of outcome ≡ set_by before result

came_more : (fixed : Fixed) (task : Task) (less more : Suites) (outcome : Proposal) → MoreKnown (known_of less) (known_of more) → AreFit more → Came fixed task less outcome → Came fixed task more outcome
came_more fixed task less more outcome goes fit came = search (more_known_changes_nothing, still_more, arith)

came_done : (fixed : Fixed) (task : Task) (suites : Suites) (answers : List Answer) (set : Changes) → AreFit suites → heard_on fixed task suites ≡ exec.Done answers set
    → Came fixed task suites (Ok (record { answers = answers; changes = set }))
came_done fixed task suites answers set fit = search arith

came_refused : (fixed : Fixed) (task : Task) (suites : Suites) (why : Refusal) → AreFit suites → heard_on fixed task suites ≡ exec.Refused why → Came fixed task suites (Err why)
came_refused fixed task suites why fit = search arith

-- ---- what a phase keeps

abbrev pub Keeps : Fixed → Task → Suites → Phase → Type 0
Keeps fixed task suites (Widening left granted) = AreFit suites × Came fixed task suites (Ok granted)
Keeps fixed task suites (Preparing left outcome) = Came fixed task suites outcome
Keeps fixed task suites (Deciding outcome) = Came fixed task suites outcome
Keeps fixed task suites (Finishing servers v ending) = Unit {0}
Keeps fixed task suites _ = AreFit suites

abbrev pub Left : Fixed → After TransactionRun → Type 0
Left fixed (GoesOn txn_run) = Keeps fixed txn_run.task txn_run.suites txn_run.phase
Left fixed (Ends ending) = Unit {0}

left_end : (fixed : Fixed) (task : Task) (cache : Cache) (suites : Suites) (v : Verdict) (ending : Ending) (servers : List ℕ) → Left fixed (tell_end task cache suites v ending servers).after
left_end fixed task cache suites v ending servers = search arith

left_give_up : (fixed : Fixed) (task : Task) (cache : Cache) (suites : Suites) (cause : Cause) → Left fixed (give_up task cache suites cause).after
left_give_up fixed task cache suites cause = left_end fixed task cache suites verdict.Aborted (Undecided cause) (locked_at suites)

left_prepare : (fixed : Fixed) (task : Task) (cache : Cache) (suites : Suites) (outcome : Proposal) (servers : List ℕ) → Came fixed task suites outcome → Left fixed (prepare task cache suites outcome servers).after
left_prepare fixed task cache suites outcome servers h6 = search arith

-- ---- widening

left_widen_by : (fixed : Fixed) (task : Task) (cache : Cache) (suites : Suites) (left : List ℕ) (granted : Granted) (number : ℕ) (next : Next) (go_on : Suites → Step) → AreFit suites → Came fixed task suites (Ok granted)
    → ((suites : Suites) → AreFit suites → Came fixed task suites (Ok granted) → Left fixed (go_on suites).after) → Left fixed (widen_by task cache suites (Widening left granted) number next go_on).after
left_widen_by fixed task cache suites left granted number (Current prefix dver members) go_on fit came more = more suites fit came
left_widen_by fixed task cache suites left granted number (Ask server asked) go_on fit came more = (fit, came)
left_widen_by fixed task cache suites left granted number (Short got needed busy) go_on fit came more = left_give_up fixed task cache suites (short_cause number got needed busy)

left_widen_one : (fixed : Fixed) (task : Task) (cache : Cache) (suites : Suites) (left : List ℕ) (granted : Granted) (number : ℕ) (found : Option GatheredSuite)
    → suite_of suites number ≡ found → (go_on : Suites → Step) → AreFit suites → Came fixed task suites (Ok granted)
    → ((suites : Suites) → AreFit suites → Came fixed task suites (Ok granted) → Left fixed (go_on suites).after) → Left fixed (widen_one task cache suites (Widening left granted) granted.changes number found go_on).after
left_widen_one fixed task cache suites left granted number (Some suite) there go_on fit came more =
    let wider = widened granted.changes number suite in
    left_widen_by fixed task cache (with_suite number wider suites) left granted number (next wider.collector) go_on
    (with_fit suites number wider fit (fit.modes number suite there))
    (came_more fixed task suites (with_suite number wider suites) (Ok granted)
    (more_after suites number suite wider fit.ordered there (λ first was. record { first = was; content = refl; mode = serves_itself suite.mode }))
    (with_fit suites number wider fit (fit.modes number suite there)) came)
    more
left_widen_one fixed task cache suites left granted number None there go_on fit came more = more suites fit came

left_widen : (fixed : Fixed) (task : Task) (cache : Cache) (granted : Granted) (left : List ℕ) (suites : Suites) → AreFit suites → Came fixed task suites (Ok granted) → Left fixed (widen_all task cache suites granted left).after
left_widen fixed task cache granted [] suites fit came = left_prepare fixed task cache suites (Ok granted) (locked_at suites) came
left_widen fixed task cache granted (number ∷ left) suites fit came =
    left_widen_one fixed task cache suites (number ∷ left) granted number (suite_of suites number) refl _ fit came (λ suites fit came. left_widen fixed task cache granted left suites fit came)

-- ---- executing

left_gather : (fixed : Fixed) (task : Task) (cache : Cache) (suites : Suites) (number : ℕ) (next : Next) → AreFit suites → Left fixed (gather_by task cache suites number next).after
left_gather fixed task cache suites number (Short got needed busy) fit = left_give_up fixed task cache suites (short_cause number got needed busy)
left_gather fixed task cache suites number _ fit = fit

new_mode : (fixed : Fixed) (task : Task) (cache : Cache) (suites : Suites) (number : ℕ) (mode : LockMode) (found : Option GatheredSuite) → suite_of suites number ≡ found → AreFit suites
    → serves (raised_or_new fixed task cache number mode found).collector.mode (raised_or_new fixed task cache number mode found).mode ≡ true
new_mode fixed task cache suites number mode found h7 h8 = search arith

left_proceed : (fixed : Fixed) (task : Task) (cache : Cache) (suites : Suites) (heard : Executed) → heard_on fixed task suites ≡ heard → AreFit suites → Left fixed (proceed fixed task cache suites heard).after
left_proceed fixed task cache suites (exec.Need (Hold number mode)) is fit = search (left_gather, with_fit, new_mode, arith)
left_proceed fixed task cache suites (exec.Need (Know number)) is fit = fit
left_proceed fixed task cache suites (exec.Done answers set) is fit = left_widen fixed task cache (record { answers = answers; changes = set }) (to_widen set) suites fit (came_done fixed task suites answers set fit is)
left_proceed fixed task cache suites (exec.Refused refusal) is fit = left_prepare fixed task cache suites (Err refusal) (locked_at suites) (came_refused fixed task suites refusal fit is)

-- what is to be had without asking
abbrev FitIf : Option Gathered → Type 0
FitIf (Some all) = AreFit all.suites
FitIf None = Unit {0}

fit_opened_with : (task : Task) (all : Gathered) (number : ℕ) (suite : GatheredSuite) (first : ReadPoint) (content : Option Content) → suite_of all.suites number ≡ Some suite
    → AreFit all.suites → FitIf (opened_with task all number suite first content)
fit_opened_with task all number suite first content h6 h7 = search (with_fit, arith)

fit_first : (task : Task) (all : Gathered) (number : ℕ) (suite : GatheredSuite) (first : Option ReadPoint) → suite_of all.suites number ≡ Some suite → AreFit all.suites → FitIf (open_first task all number suite first)
fit_first task all number suite first h5 h6 = search (fit_opened_with, arith)

fit_suite : (task : Task) (all : Gathered) (number : ℕ) (found : Option GatheredSuite) → suite_of all.suites number ≡ found → AreFit all.suites → FitIf (open_suite task all number found)
fit_suite task all number found h4 h5 = search (fit_first, arith)

fit_needed : (task : Task) (all : Gathered) (heard : Executed) → AreFit all.suites → FitIf (open_needed task all heard)
fit_needed task all heard h3 = search (fit_suite, arith)

fit_or : (all : Gathered) (more : Option Gathered) (go_on : Gathered → Gathered) → AreFit all.suites → FitIf more → ((all : Gathered) → AreFit all.suites → AreFit (go_on all).suites) → AreFit (or_all all more go_on).suites
fit_or all more go_on h3 h4 h5 = search arith

fit_opened : (n : ℕ) (fixed : Fixed) (task : Task) (all : Gathered) → AreFit all.suites → AreFit (opened n fixed task all).suites
fit_opened zero fixed task all fit = fit
fit_opened (suc n) fixed task all fit =
    fit_or all (open_needed task all (heard_on fixed task all.suites)) _ fit (fit_needed task all (heard_on fixed task all.suites) fit) (λ all fit. fit_opened n fixed task all fit)

pub left_execute : (fixed : Fixed) (task : Task) (all : Gathered) → AreFit all.suites → Left fixed (execute fixed task all).after
left_execute fixed task all fit = search (left_proceed, fit_opened, arith)

-- ---- a response

-- a suite of which something was told
abbrev told_of : Told → GatheredSuite → GatheredSuite
told_of told suite = record suite { collector = tell told suite.collector }

tell_mode : (told : Told) (widening : Option Wider) (c : Collector) → (tell_at widening told c).mode ≡ c.mode
tell_mode told widening c = search arith

left_collected : (fixed : Fixed) (task : Task) (cache : Cache) (suites : Suites) (phase : Phase) (number : ℕ) (suite : GatheredSuite) (next : Next) (go_on : GatheredSuite → Step)
    → Keeps fixed task (with_suite number suite suites) phase → ((prefix : Prefix) (dver : ℕ) (members : List ℕ) → Left fixed (go_on (settled prefix dver members suite)).after)
    → Left fixed (collected task cache suites phase number suite next go_on).after
left_collected fixed task cache suites phase number suite (Ask server asked) go_on keeps more = keeps
left_collected fixed task cache suites phase number suite (Short got needed busy) go_on keeps more = left_give_up fixed task cache (with_suite number suite suites) (short_cause number got needed busy)
left_collected fixed task cache suites phase number suite (Current prefix dver members) go_on keeps more = more prefix dver members

left_hear : (fixed : Fixed) (task : Task) (cache : Cache) (suites : Suites) (phase : Phase) (number : ℕ) (suite : GatheredSuite) (server : ℕ) (asked : Request) (heard : Option Said) (go_on : GatheredSuite → Step)
    → ((told : Told) → Keeps fixed task (with_suite number (told_of told suite) suites) phase) → ((told : Told) (prefix : Prefix) (dver : ℕ) (members : List ℕ) → Left fixed (go_on (settled prefix dver members (told_of told suite))).after)
    → Left fixed (hear task cache suites phase number suite server asked heard go_on).after
left_hear fixed task cache suites phase number suite server asked (Some heard) go_on keeps more = search (left_collected, arith)
left_hear fixed task cache suites phase number suite server asked None go_on keeps more = left_give_up fixed task cache suites (Lost server)

told_mode : (suites : Suites) (number : ℕ) (suite : GatheredSuite) (told : Told) → AreFit suites → suite_of suites number ≡ Some suite → serves (tell told suite.collector).mode suite.mode ≡ true
told_mode suites number suite told fit there = subst (λ mode. serves mode suite.mode ≡ true) (sym (tell_mode told suite.collector.widening suite.collector)) (fit.modes number suite there)

first_stays : (found : Option ReadPoint) (first new : ReadPoint) → found ≡ Some first → first_or found new ≡ Some first
first_stays found first new h3 = search arith

left_gathering : (fixed : Fixed) (task : Task) (cache : Cache) (suites : Suites) (number : ℕ) (found : Option GatheredSuite) (server : ℕ) (asked : Request) (said : Reply) → suite_of suites number ≡ found → AreFit suites
    → Left fixed (heard_of task cache suites (Gathering number) number found server asked said (λ suites. execute fixed task (record { suites = suites; cache = cache }))).after
left_gathering fixed task cache suites number (Some suite) server asked said there fit = search (left_hear, with_fit, told_mode, left_execute, serves_itself, arith)
left_gathering fixed task cache suites number None server asked said there fit = left_give_up fixed task cache suites (Lost server)

left_widening : (fixed : Fixed) (task : Task) (cache : Cache) (suites : Suites) (number : ℕ) (left : List ℕ) (granted : Granted) (found : Option GatheredSuite) (server : ℕ)
    (asked : Request) (said : Reply) → suite_of suites number ≡ found → AreFit suites → Came fixed task suites (Ok granted)
    → Left fixed (heard_of task cache suites (Widening (number ∷ left) granted) number found server asked said (λ suites. widen_all task cache suites granted left)).after
left_widening fixed task cache suites number left granted (Some suite) server asked said there fit came =
    left_hear fixed task cache suites (Widening (number ∷ left) granted) number suite server asked (said_to asked said) _
    (λ told. (
      with_fit suites number (told_of told suite) fit (told_mode suites number suite told fit there),
      came_more fixed task suites (with_suite number (told_of told suite) suites) (Ok granted)
          (more_after suites number suite (told_of told suite) fit.ordered there (λ first was. record { first = was; content = refl; mode = serves_itself suite.mode }))
          (with_fit suites number (told_of told suite) fit (told_mode suites number suite told fit there)) came,
    ))
    (λ told prefix dver members.
    let now = settled prefix dver members (told_of told suite) in
    left_widen fixed task cache granted left (with_suite number now suites) (with_fit suites number now fit (serves_itself (tell told suite.collector).mode))
    (came_more fixed task suites (with_suite number now suites) (Ok granted)
    (more_after suites number suite now fit.ordered there
    (λ first was. record { first = first_stays suite.first first _ was; content = refl; mode = told_mode suites number suite told fit there }))
    (with_fit suites number now fit (serves_itself (tell told suite.collector).mode)) came))
left_widening fixed task cache suites number left granted None server asked said there fit came = left_give_up fixed task cache suites (Lost server)

left_keep : (fixed : Fixed) (task : Task) (cache : Cache) (suites : Suites) (number : ℕ) (suite : GatheredSuite) (content : Content) (first : Option ReadPoint) (server : ℕ)
    → suite_of suites number ≡ Some suite → AreFit suites → Left fixed (keep_content fixed task cache suites number suite content first server).after
left_keep fixed task cache suites number suite content (Some first) server there fit = left_execute fixed task _ (with_fit suites number (record suite { content = Some content }) fit (fit.modes number suite there))
left_keep fixed task cache suites number suite content None server there fit = left_give_up fixed task cache suites (Lost server)

left_fetched : (fixed : Fixed) (task : Task) (cache : Cache) (suites : Suites) (number : ℕ) (found : Option GatheredSuite) (server : ℕ) (given : Option Content)
    → suite_of suites number ≡ found → AreFit suites → Left fixed (fetched fixed task cache suites number found server given).after
left_fetched fixed task cache suites number (Some suite) server (Some content) there fit = left_keep fixed task cache suites number suite content suite.first server there fit
left_fetched fixed task cache suites number (Some suite) server None there fit = left_give_up fixed task cache suites (Lost server)
left_fetched fixed task cache suites number None server (Some content) there fit = left_give_up fixed task cache suites (Lost server)
left_fetched fixed task cache suites number None server None there fit = left_give_up fixed task cache suites (Lost server)

left_prepared : (fixed : Fixed) (task : Task) (cache : Cache) (suites : Suites) (outcome : Proposal) (server : ℕ) (left : List ℕ) (said : Reply) → Came fixed task suites outcome
    → Left fixed (prepared task cache suites outcome server left said).after
left_prepared fixed task cache suites outcome server left said came = search (left_prepare fixed task cache suites outcome left came, left_give_up fixed task cache suites (Lost server), arith)

pub left_response : (fixed : Fixed) (task : Task) (cache : Cache) (suites : Suites) (phase : Phase) (server : ℕ) (asked : Request) (response : Response)
    → Keeps fixed task suites phase → Left fixed (after_response fixed (record { task = task; suites = suites; phase = phase }) cache server asked response).after
left_response fixed task cache suites (Finishing [] v ending) server asked (Lacked lacked) keeps = tt
left_response fixed task cache suites (Finishing (now ∷ left) v ending) server asked (Lacked lacked) keeps = left_end fixed task cache suites v ending left
left_response fixed task cache suites (Gathering number) server asked (Replied said) keeps = left_gathering fixed task cache suites number (suite_of suites number) server asked said refl keeps
left_response fixed task cache suites (Fetching number) server asked (Replied said) keeps = left_fetched fixed task cache suites number (suite_of suites number) server (given_in said) refl keeps
left_response fixed task cache suites (Widening [] granted) server asked (Replied said) keeps = left_give_up fixed task cache suites (Lost server)
left_response fixed task cache suites (Widening (number ∷ left) granted) server asked (Replied said) keeps = left_widening fixed task cache suites number left granted (suite_of suites number) server asked said refl keeps.0 keeps.1
left_response fixed task cache suites (Preparing [] outcome) server asked (Replied said) keeps = left_give_up fixed task cache suites (Lost server)
left_response fixed task cache suites (Preparing (now ∷ left) outcome) server asked (Replied said) keeps = left_prepared fixed task cache suites outcome server left said keeps
left_response fixed task cache suites (Deciding outcome) server asked (Replied said) keeps = search (left_end, arith)
left_response fixed task cache suites (Finishing [] v ending) server asked (Replied said) keeps = tt
left_response fixed task cache suites (Finishing (now ∷ left) v ending) server asked (Replied said) keeps = left_end fixed task cache suites v ending left
left_response fixed task cache suites other server asked (Lacked lacked) keeps = left_give_up fixed task cache suites (lack_cause server lacked)
