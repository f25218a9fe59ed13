-- The protocol of a transaction as its moves, a constructor for each. What comes of a word is a case of `Hears`; what follows from that before
-- anything is asked again is a chain of cases of `Move`. A comment begins with the move in the field's words: poll, quorum, fetch, prepare,
-- decide, commit or abort. A poll asks a server for a lock; the decision of the home commits or aborts.
use Rattle.std.specs.Prelude.{◌≡◌, ℕ, Bool, true, false, List, [], ◌∷◌, Option, Some, None, Ok, Err}
use Rattle.suite_content.specs.declared.content.Content.{Content}
use Rattle.suite_prefix.specs.declared.copies.Prefix.{Prefix}
use Rattle.suite_prefix.specs.declared.lock_mode.LockMode.{LockMode}
use Rattle.file_ops.specs.declared.answer.Answer.{Answer}
use Rattle.file_ops.specs.declared.refusal.Refusal.{Refusal}
use Rattle.rep_core.specs.declared.request.Request.{Request}
use Rattle.rep_core.specs.declared.reply.Reply.{Reply}
use Rattle.rep_core.specs.declared.reply.Verdict.{Verdict}
use Rattle.rep_core.specs.declared.reply.Verdict.TheVariants as verdict
use Rattle.rep_core.specs.declared.stamped.Lack.{Lack}
use Rattle.rep_core.specs.Fits.{is_prepared}
use Rattle.file_exec.specs.declared.need.Need.TheVariants.{Hold, Know}
use Rattle.file_exec.specs.declared.executor.Outcome.TheVariants as exec
use Rattle.suite_collect.specs.declared.told.Said.{Said}
use Rattle.suite_collect.specs.Collecting.{Asked, Next, Ask, Current, Short, tell, mode_of, next}
use Rattle.weak_cache.specs.Entries.{Entry, Cache}
use Rattle.weak_cache.specs.Cache.{put}
use Rattle.txn_core.specs.Suites.{ReadPoint, GatheredSuite, Suites, suite_of, with_suite, settled}
use Rattle.txn_core.specs.declared.response.Response.{Response}
use Rattle.txn_core.specs.declared.response.Response.TheVariants.{Replied, Lacked}
use Rattle.txn_core.specs.declared.ending.Cause.TheVariants.{Lost}
use Rattle.txn_core.specs.declared.ending.Ending.{Ending}
use Rattle.txn_core.specs.declared.ending.Cause.{Cause}
use Rattle.txn_core.specs.Doing.{Changes, Granted, Fixed, Task, Proposal, Phase, Gathering, Fetching, Widening, Preparing, Deciding, Finishing, TransactionRun}
use Rattle.txn_core.specs.Transactions.{
  Step,
  on_with,
  tell_end,
  finish,
  give_up,
  prepare,
  locked_at,
  short_cause,
  raised_or_new,
  widened,
  to_widen,
  free_content,
  after_search,
  heard_on,
  said_to,
  given_in,
  verdict_in,
  ending_by,
  cause_of_abort,
  lack_cause,
  Gathered,
  execute,
  after_response,
}

-- ---- where it stands between a word and what it asks next

pub data Stage : Type 0 where
  -- it is executed on what it gathered
  Executes : Stage
  -- these suites are widened to the votes that are set, the first of the list now
  Widens : List ℕ → Granted → Stage
  -- it asks in this phase
  Asks : Phase → Stage
  -- each server that holds a lock prepares; or these
  Prepares : Proposal → Stage
  PreparesAt : List ℕ → Proposal → Stage
  -- a cause was met: nothing is decided any more
  GivesUp : Cause → Stage
  -- each server that holds a lock is told how it ended; or these
  Tells : Verdict → Ending → Stage
  TellsAt : List ℕ → Verdict → Ending → Stage

pub record Point : Type 0 where
  pub stage : Stage
  pub cache : Cache
  pub suites : Suites

abbrev pub point : Stage → Cache → Suites → Point
point stage cache suites = record { stage = stage; cache = cache; suites = suites }

-- the step that ends there; where more follows at once none does
abbrev pub EndsIn : Task → Cache → Suites → Stage → Step → Type 0
EndsIn task cache suites (Asks phase) step = on_with task cache suites phase ≡ step
EndsIn task cache suites (Prepares outcome) step = prepare task cache suites outcome (locked_at suites) ≡ step
EndsIn task cache suites (PreparesAt servers outcome) step = prepare task cache suites outcome servers ≡ step
EndsIn task cache suites (GivesUp cause) step = give_up task cache suites cause ≡ step
EndsIn task cache suites (Tells verdict ending) step = finish task cache suites verdict ending ≡ step
EndsIn task cache suites (TellsAt servers verdict ending) step = tell_end task cache suites verdict ending servers ≡ step
EndsIn task cache suites Executes step = ⊥
EndsIn task cache suites (Widens left granted) step = ⊥

-- whether a suite has too few votes left to ask
abbrev pub is_short : Next → Bool
is_short (Short got wanting busy) = true
is_short other = false

-- ---- a move without a word

module _ (fixed : Fixed) (task : Task) where
  pub data Move : Point → Point → Type 0 where
    -- fetch, without asking: the executor needs a content that the cache has, or that is empty, and it is opened
    opens : {cache : Cache} {suites : Suites} {number : ℕ} {suite : GatheredSuite} {first : ReadPoint} {content : Content}
        → heard_on fixed task suites ≡ exec.Need (Know number) → suite_of suites number ≡ Some suite → suite.first ≡ Some first → free_content task cache number first ≡ Some content
        → Move (point Executes cache suites) (point Executes (after_search task cache number first) (with_suite number (record suite { content = Some content }) suites))
    -- fetch: it needs another content, which a server that showed its version is asked for
    fetches : {cache : Cache} {suites : Suites} {number : ℕ}
        → heard_on fixed task suites ≡ exec.Need (Know number)
        → Move (point Executes cache suites) (point (Asks (Fetching number)) cache suites)
    -- poll: it needs a lock, and the suite is gathered, from the start or to a stronger lock
    gathers : {cache : Cache} {suites : Suites} {number : ℕ} {mode : LockMode} {suite : GatheredSuite}
        → heard_on fixed task suites ≡ exec.Need (Hold number mode) → raised_or_new fixed task cache number mode (suite_of suites number) ≡ suite → is_short (next suite.collector) ≡ false
        → Move (point Executes cache suites) (point (Asks (Gathering number)) cache (with_suite number suite suites))
    -- no quorum, so abort: too few votes are to be had of it
    lacks_lock : {cache : Cache} {suites : Suites} {number : ℕ} {mode : LockMode} {suite : GatheredSuite} {got wanting : ℕ} {busy : Option (ℕ × ℕ)}
        → heard_on fixed task suites ≡ exec.Need (Hold number mode) → raised_or_new fixed task cache number mode (suite_of suites number) ≡ suite → next suite.collector ≡ Short got wanting busy
        → Move (point Executes cache suites) (point (GivesUp (short_cause number got wanting busy)) cache (with_suite number suite suites))
    -- prepare, of a refusal: nothing is set, and it is decided as answers are, so that a denial is recorded
    refuses : {cache : Cache} {suites : Suites} {refusal : Refusal}
        → heard_on fixed task suites ≡ exec.Refused refusal
        → Move (point Executes cache suites) (point (Prepares (Err refusal)) cache suites)
    -- all is known, and it has its answers: the suites that get votes are widened to these before they are prepared
    grants : {cache : Cache} {suites : Suites} {answers : List Answer} {changes : Changes}
        → heard_on fixed task suites ≡ exec.Done answers changes
        → Move (point Executes cache suites) (point (Widens (to_widen changes) (record { answers = answers; changes = changes })) cache suites)
    -- no poll: one that was never gathered has nothing to widen
    passes : {cache : Cache} {suites : Suites} {number : ℕ} {left : List ℕ} {granted : Granted}
        → suite_of suites number ≡ None
        → Move (point (Widens (number ∷ left) granted) cache suites) (point (Widens left granted) cache suites)
    -- quorum: one is held by a write quorum of its new votes already
    widens : {cache : Cache} {suites : Suites} {number : ℕ} {left : List ℕ} {granted : Granted} {suite : GatheredSuite} {prefix : Prefix} {dver : ℕ} {members : List ℕ}
        → suite_of suites number ≡ Some suite → next (widened granted.changes number suite).collector ≡ Current prefix dver members
        → Move (point (Widens (number ∷ left) granted) cache suites) (point (Widens left granted) cache (with_suite number (widened granted.changes number suite) suites))
    -- poll: one asks servers for a write quorum of its new votes
    widens_by : {cache : Cache} {suites : Suites} {number : ℕ} {left : List ℕ} {granted : Granted} {suite : GatheredSuite} {server : ℕ} {asked : Asked}
        → suite_of suites number ≡ Some suite → next (widened granted.changes number suite).collector ≡ Ask server asked
        → Move (point (Widens (number ∷ left) granted) cache suites) (point (Asks (Widening (number ∷ left) granted)) cache (with_suite number (widened granted.changes number suite) suites))
    -- no quorum, so abort: too few votes are to be had of one
    lacks_wide : {cache : Cache} {suites : Suites} {number : ℕ} {left : List ℕ} {granted : Granted} {suite : GatheredSuite} {got wanting : ℕ} {busy : Option (ℕ × ℕ)}
        → suite_of suites number ≡ Some suite → next (widened granted.changes number suite).collector ≡ Short got wanting busy
        → Move (point (Widens (number ∷ left) granted) cache suites) (point (GivesUp (short_cause number got wanting busy)) cache (with_suite number (widened granted.changes number suite) suites))
    -- prepare: all are widened, and each server that holds a lock is to prepare
    prepares : {cache : Cache} {suites : Suites} {granted : Granted}
        → Move (point (Widens [] granted) cache suites) (point (Prepares (Ok granted)) cache suites)

  -- one after the other
  pub data Moves : Point → Point → Type 0 where
    stays : {at : Point} → Moves at at
    goes : {at mid end : Point} → Move at mid → Moves mid end → Moves at end

-- ---- a word

-- a phase in which the collector of a suite asks, and what follows its quorum
pub data Collects : Phase → ℕ → Stage → Type 0 where
  gathering : {number : ℕ} → Collects (Gathering number) number Executes
  widening : {number : ℕ} {left : List ℕ} {granted : Granted} → Collects (Widening (number ∷ left) granted) number (Widens left granted)

-- a suite whose collector was told
abbrev pub now_told : ℕ → Request → Said → GatheredSuite → GatheredSuite
now_told server asked said suite = record suite { collector = tell (record { server = server; mode = mode_of asked; said = said }) suite.collector }

-- a content that was fetched, as the cache keeps it: with the prefix and the version that the suite's first quorum gave
abbrev pub entry_of : Task → ℕ → ReadPoint → Content → Entry
entry_of task number first content = record { site = task.site; suite = number; prefix = first.prefix; dver = first.dver; content = content }

-- a phase that asks nothing; no transaction that is told something is in it
abbrev pub AsksNothing : Suites → Phase → Type 0
AsksNothing suites (Gathering number) = suite_of suites number ≡ None
AsksNothing suites (Fetching number) = (suite : GatheredSuite) → suite_of suites number ≡ Some suite → suite.first ≡ None
AsksNothing suites (Widening [] granted) = Unit {0}
AsksNothing suites (Widening (number ∷ left) granted) = suite_of suites number ≡ None
AsksNothing suites (Preparing [] outcome) = Unit {0}
AsksNothing suites other = ⊥

-- a phase before the end is told
abbrev pub IsOpen : Phase → Type 0
IsOpen (Finishing servers verdict ending) = ⊥
IsOpen other = Unit {0}

module _ (fixed : Fixed) (task : Task) (cache : Cache) (suites : Suites) (server : ℕ) (asked : Request) where
  pub data Hears : Phase → Response → Point → Type 0 where
    -- poll: the collector of a suite asks on
    asks_on : {phase : Phase} {number : ℕ} {stage : Stage} {suite : GatheredSuite} {reply : Reply} {said : Said} {who : ℕ} {what : Asked}
        → Collects phase number stage → suite_of suites number ≡ Some suite → said_to asked reply ≡ Some said → next (now_told server asked said suite).collector ≡ Ask who what
        → Hears phase (Replied reply) (point (Asks phase) cache (with_suite number (now_told server asked said suite) suites))
    -- no quorum, so abort: too few votes are to be had of it
    falls_short : {phase : Phase} {number : ℕ} {stage : Stage} {suite : GatheredSuite} {reply : Reply} {said : Said} {got wanting : ℕ} {busy : Option (ℕ × ℕ)}
        → Collects phase number stage → suite_of suites number ≡ Some suite → said_to asked reply ≡ Some said → next (now_told server asked said suite).collector ≡ Short got wanting busy
        → Hears phase (Replied reply) (point (GivesUp (short_cause number got wanting busy)) cache (with_suite number (now_told server asked said suite) suites))
    -- quorum: it has its votes, under the newest prefix that was shown
    settles : {phase : Phase} {number : ℕ} {stage : Stage} {suite : GatheredSuite} {reply : Reply} {said : Said} {prefix : Prefix} {dver : ℕ} {members : List ℕ}
        → Collects phase number stage → suite_of suites number ≡ Some suite → said_to asked reply ≡ Some said → next (now_told server asked said suite).collector ≡ Current prefix dver members
        → Hears phase (Replied reply) (point stage cache (with_suite number (settled prefix dver members (now_told server asked said suite)) suites))
    -- abort: a lock is lost, or its server is down
    loses : {phase : Phase} {number : ℕ} {stage : Stage} {suite : GatheredSuite} {reply : Reply}
        → Collects phase number stage → suite_of suites number ≡ Some suite → said_to asked reply ≡ None
        → Hears phase (Replied reply) (point (GivesUp (Lost server)) cache suites)
    -- fetch: a content is given, and the cache keeps it
    gets : {number : ℕ} {suite : GatheredSuite} {first : ReadPoint} {reply : Reply} {content : Content}
        → suite_of suites number ≡ Some suite → suite.first ≡ Some first → given_in reply ≡ Some content
        → Hears (Fetching number) (Replied reply) (point Executes (put fixed.limits (entry_of task number first content) cache) (with_suite number (record suite { content = Some content }) suites))
    -- abort: none is given
    misses : {number : ℕ} {reply : Reply}
        → given_in reply ≡ None
        → Hears (Fetching number) (Replied reply) (point (GivesUp (Lost server)) cache suites)
    -- prepare: a server has prepared; the others follow, and then the home decides
    prepared_by : {now : ℕ} {left : List ℕ} {outcome : Proposal} {reply : Reply}
        → is_prepared reply ≡ true
        → Hears (Preparing (now ∷ left) outcome) (Replied reply) (point (PreparesAt left outcome) cache suites)
    -- abort: it has not
    unprepared : {now : ℕ} {left : List ℕ} {outcome : Proposal} {reply : Reply}
        → is_prepared reply ≡ false
        → Hears (Preparing (now ∷ left) outcome) (Replied reply) (point (GivesUp (Lost server)) cache suites)
    -- decide: the home says whether it commits, with answers or a refusal, or aborts
    decides : {outcome : Proposal} {reply : Reply}
        → Hears (Deciding outcome) (Replied reply) (point (Tells (verdict_in reply verdict.Aborted) (ending_by (verdict_in reply verdict.Aborted) (cause_of_abort reply))) cache suites)
    -- commit or abort: a server was told how it ended, whatever it says
    tells_next : {now : ℕ} {left : List ℕ} {v : Verdict} {ending : Ending} {response : Response}
        → Hears (Finishing (now ∷ left) v ending) response (point (TellsAt left v ending) cache suites)
    -- commit or abort: all were told
    told_all : {v : Verdict} {ending : Ending} {response : Response}
        → Hears (Finishing [] v ending) response (point (TellsAt [] v ending) cache suites)
    -- abort: the server did not serve what it was asked
    is_lacked : {phase : Phase} {lack : Lack}
        → IsOpen phase
        → Hears phase (Lacked lack) (point (GivesUp (lack_cause server lack)) cache suites)
    -- abort: nothing was asked
    strays : {phase : Phase} {reply : Reply}
        → AsksNothing suites phase
        → Hears phase (Replied reply) (point (GivesUp (Lost server)) cache suites)

-- ---- the law: whatever a transaction does as it begins, or with a response, is such moves

-- moves from a point on that come to a step
pub record MovesTo (fixed : Fixed) (task : Task) (at : Point) (step : Step) : Type 0 where
  pub end : Point
  pub moves : Moves fixed task at end
  pub ends : EndsIn task end.cache end.suites end.stage step

pub record HearsTo (fixed : Fixed) (task : Task) (cache : Cache) (suites : Suites) (server : ℕ) (asked : Request) (phase : Phase) (response : Response) (step : Step) : Type 0 where
  pub heard : Point
  pub hears : Hears fixed task cache suites server asked phase response heard
  pub moves : MovesTo fixed task heard step

pub record EveryResponseIsMoves : Type 0 where
  pub begins : (fixed : Fixed) (task : Task) (all : Gathered) → MovesTo fixed task (point Executes all.cache all.suites) (execute fixed task all)
  pub goes_on : (fixed : Fixed) (txn_run : TransactionRun) (cache : Cache) (server : ℕ) (asked : Request) (response : Response)
      → HearsTo fixed txn_run.task cache txn_run.suites server asked txn_run.phase response (after_response fixed txn_run cache server asked response)
