-- What an agent's cache keeps, and from where.
use Rattle.std.specs.Prelude.{◌≡◌, ℕ, true, false, ◌⊎◌, List, [], ◌∷◌, ◌++◌, Contains, Some, None}
use Rattle.acl_core.specs.Identity.{Identity}
use Rattle.file_ops.specs.declared.operation.Op.{Op}
use Rattle.suite_content.specs.declared.content.Content.{Content}
use Rattle.suite_content.specs.Contents.{empty_content}
use Rattle.suite_prefix.specs.Copies.{held_by}
use Rattle.suite_prefix.specs.declared.copies.Prefix.{Prefix}
use Rattle.suite_prefix.specs.declared.lock_mode.LockMode.{LockMode}
use Rattle.rep_core.specs.declared.request.Request.TheVariants as request
use Rattle.rep_core.specs.declared.reply.Reply.TheVariants as reply
use Rattle.suite_collect.specs.Collecting.{Collector, Next, Current, next}
use Rattle.weak_cache.specs.Entries.{Entry, is_at}
use Rattle.weak_cache.specs.Cache.{content_at}
use Rattle.txn_core.specs.Suites.{ReadPoint, GatheredSuite, suite_of, source_of}
use Rattle.txn_core.specs.declared.response.Response.{Response}
use Rattle.txn_core.specs.declared.response.Response.TheVariants.{Replied}
use Rattle.txn_core.specs.declared.job.Job.{Job}
use Rattle.txn_core.specs.declared.job.Job.TheVariants.{Transaction}
use Rattle.txn_core.specs.Doing.{Fixed, TransactionRun, Running}
use Rattle.txn_core.specs.Agents.{Agent, Event, Take, next_of, begin, forget, is_idle, after_all}
use Rattle.txn_core.specs.Laws.{Exchange, of_job, told_of, IsStart}

-- ---- what the first Current of a suite gave

-- the collector of a suite that was gathered from a prefix, in a mode, once this was exchanged
abbrev pub gathered_from : Prefix → LockMode → ℕ → List Exchange → Collector
gathered_from start mode suite past = record { start = start; mode = mode; told = told_of suite [] past; widening = None }

abbrev pub IsCurrent : Next → Type 0
IsCurrent next = (prefix : Prefix) × (dver : ℕ) × (members : List ℕ) × (next ≡ Current prefix dver members)

-- among these exchanges, once some of them were made, the suite was Current, and never before
pub record FirstGave (start : Prefix) (suite : ℕ) (past : List Exchange) (first : ReadPoint) : Type 0 where
  pub mode : LockMode
  pub members : List ℕ
  pub before : List Exchange
  pub later : List Exchange
  pub parts : past ≡ before ++ later
  pub gave : next (gathered_from start mode suite before) ≡ Current first.prefix first.dver members
  pub source : first.source ≡ source_of (gathered_from start mode suite before) first.dver members
  pub never_before : (early : List Exchange) (one : Exchange) (rest : List Exchange) → before ≡ early ++ one ∷ rest → IsCurrent (next (gathered_from start mode suite early)) → ⊥

-- ---- the cache

-- An entry that the last response put: it told the content, fetched at the first server that showed the version that the suite's first Current
-- gave; with it stand that version, and the prefix that this Current gave.
pub record IsFetched (fixed : Fixed) (agent : Agent) (job : Job) (events : List Event) (response : Response) (entry : Entry) : Type 0 where
  pub caller : Identity
  pub site : ℕ
  pub ops : List Op
  pub transaction : job ≡ Transaction caller site ops
  pub at : entry.site ≡ site
  pub start : Prefix
  pub gathered : IsStart fixed agent job events entry.suite start
  pub first : ReadPoint
  pub gave : FirstGave start entry.suite (of_job fixed agent job events) first
  pub t : ℕ
  pub asked : next_of fixed (after_all fixed (begin fixed agent job) events) ≡ Some (first.source, request.Fetch t entry.suite)
  pub prefix : entry.prefix ≡ first.prefix
  pub dver : entry.dver ≡ first.dver
  pub told : (dver : ℕ) × (response ≡ Replied (reply.Given dver entry.content))

-- What the cache keeps was there before, perhaps at another place, but for what a response puts; and of a site that is forgotten nothing is left.
pub record CachesWhatWasFetched : Type 0 where
  pub begun : (fixed : Fixed) (agent : Agent) (job : Job) (entry : Entry) → Contains (begin fixed agent job).cache entry → Contains agent.cache entry
  pub told : (fixed : Fixed) (agent : Agent) (job : Job) (events : List Event) (response : Response) (entry : Entry) → is_idle agent.doing ≡ true
      → Contains (after_all fixed (begin fixed agent job) (events ++ Take response ∷ [])).cache entry
      → Contains (after_all fixed (begin fixed agent job) events).cache entry ⊎ IsFetched fixed agent job events response entry
  pub forgotten : (agent : Agent) (site : ℕ) (entry : Entry) → Contains (forget agent site).cache entry → Contains agent.cache entry × (is_at site entry ≡ false)

-- ---- contents

-- after some event the site's cache had a content of a suite at this version
pub record WasCached (fixed : Fixed) (agent : Agent) (job : Job) (events : List Event) (site suite dver : ℕ) (content : Content) : Type 0 where
  pub before : List Event
  pub later : List Event
  pub parts : events ≡ before ++ later
  pub found : content_at (after_all fixed (begin fixed agent job) before).cache site suite dver ≡ Some content

-- a server told the content of a suite when it was asked for it
pub record WasGiven (past : List Exchange) (server suite : ℕ) (content : Content) : Type 0 where
  pub t : ℕ
  pub dver : ℕ
  pub there : Contains past (record { server = server; request = request.Fetch t suite; response = Replied (reply.Given dver content) })

-- It is the empty content of what has none yet; or the site's cache had it at the version that the suite's first Current gave; or the first
-- server that showed this version told it.
abbrev pub IsContentOf : Fixed → Agent → Job → List Event → ℕ → ℕ → ReadPoint → Content → Type 0
IsContentOf fixed agent job events site suite first content =
    ((first.dver ≡ 0) × (content ≡ empty_content (held_by first.prefix.kind)))
    ⊎ (WasCached fixed agent job events site suite first.dver content ⊎ WasGiven (of_job fixed agent job events) first.source suite content)

-- whatever content a transaction knows of a suite
abbrev pub KnowsContents : Type 0
KnowsContents =
    (fixed : Fixed) (agent : Agent) (job : Job) (events : List Event) (txn_run : TransactionRun) (number : ℕ) (suite : GatheredSuite) (content : Content) → is_idle agent.doing ≡ true
    → (after_all fixed (begin fixed agent job) events).doing ≡ Some (Running txn_run) → suite_of txn_run.suites number ≡ Some suite → suite.content ≡ Some content
    → (first : ReadPoint) × (suite.first ≡ Some first) × IsContentOf fixed agent job events txn_run.task.site number first content
