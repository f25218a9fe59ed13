-- What a call on a transaction's run leaves, against the step that it takes.
use Rattle.std.specs.Prelude.{◌≡◌, ◌<◌, ◌≤◌, ℕ, List, [], ◌∷◌, option_map, Option, Some, None}
use Rattle.rep_core.specs.declared.reply.Reply.{Reply}
use Rattle.rep_core.specs.declared.stamped.Lack.{Lack}
use Rattle.vote_core.specs.declared.TheConstants.{MAX_SERVERS}
use Rattle.suite_collect.specs.declared.told.Told.{Told}
use Rattle.weak_cache.specs.Entries.{Cache}
use Rattle.txn_core.specs.declared.ending.Ending.{Ending}
use Rattle.txn_core.specs.declared.ending.Flow.{Flow}
use Rattle.txn_core.specs.declared.ending.Flow.TheVariants.{On, Ended}
use Rattle.txn_core.specs.declared.resources.Resources.{Resources}
use Rattle.txn_core.specs.declared.learned.Learned.{Learned}
use Rattle.txn_core.specs.declared.response.Response.TheVariants.{Replied, Lacked}
use Rattle.txn_core.specs.Agents.{left}
use Rattle.txn_core.specs.Doing.{Fixed, Task, TransactionRun, Granted, Running, Widening, GoesOn}
use Rattle.txn_core.specs.Suites.{suite_of, with_suite}
use Rattle.txn_core.specs.Transactions.{Step, execute, fetched, given_in, request_of, widen_all}
use Rattle.txn_core.specs.code.Hearing.{CompletesAt, asks_in, heard_at, on_hearing}
use Rattle.txn_core.specs.code.Learning.{learned}
use Rattle.txn_core.specs.code.Reaching.{IsReachedBy, IsReachedUnless}
use Rattle.txn_core.specs.code.NextPhases.{gather_again}
use Rattle.txn_core.specs.code.Steps.{Steps, taken}
use Rattle.txn_core.specs.code.Unused.{HasUnused}

abbrev pub ending_of : Flow → Option Ending
ending_of On = None
ending_of (Ended ending) = Some ending

-- a transaction's run takes a step: it goes on, or is at its end
abbrev pub GoesBy : Step → Flow → TransactionRun → Cache → Type 0
GoesBy step flow after cache = Steps step (ending_of flow) after cache

-- ---- what is lent

-- the service, with the limits of the cache
abbrev pub fixed_by : Resources → Fixed
fixed_by resources = record { service = resources.fixed_parts; limits = resources.cache.limits }

-- what a transaction's run may be told something with
pub record IsReady (resources : Resources) (txn_run : TransactionRun) : Type 0 where
  pub servers : (0 < resources.fixed_parts.servers) × (resources.fixed_parts.servers ≤ MAX_SERVERS)
  pub unused : HasUnused resources.cache.entries
  pub reached : IsReachedBy resources.fixed_parts txn_run resources.progress

-- service and limits never change
pub record Keeps (before after : Resources) : Type 0 where
  pub fixed_parts : after.fixed_parts ≡ before.fixed_parts
  pub limits : after.cache.limits ≡ before.cache.limits
  pub unused : HasUnused after.cache.entries

-- a transaction's run takes a step with what it is lent
pub record IsStep (before : Resources) (step : Step) (flow : Flow) (txn_run : TransactionRun) (after : Resources) : Type 0 where
  pub steps : GoesBy step flow txn_run after.cache.entries
  pub keeps : Keeps before after
  pub reached : IsReachedUnless flow after.fixed_parts txn_run after.progress

-- or memory was wanting: all is as it was, but for what was reached
pub record IsUntouched (before : Resources) (txn_run : TransactionRun) (left : TransactionRun) (after : Resources) : Type 0 where
  pub same : left ≡ txn_run
  pub cache : after.cache ≡ before.cache
  pub fixed_parts : after.fixed_parts ≡ before.fixed_parts
  pub reached : IsReachedBy after.fixed_parts left after.progress

-- ---- the steps

-- a server replied to what was asked of it
abbrev pub replied : Resources → TransactionRun → Reply → Step
replied resources txn_run said = taken (fixed_by resources) txn_run resources.cache.entries (request_of (fixed_by resources) txn_run) (Replied said)

-- a suite that is gathered was answered
abbrev pub held : Fixed → TransactionRun → Cache → ℕ → ℕ → Reply → Step
held fixed txn_run cache number server said =
    on_hearing txn_run.task cache txn_run.suites txn_run.phase number server (heard_at (suite_of txn_run.suites number) said)
    (λ suite. execute fixed txn_run.task (record { suites = with_suite number suite txn_run.suites; cache = cache }))

-- a suite that is widened was, with those that are left
abbrev pub widened : TransactionRun → Cache → ℕ → ℕ → List ℕ → Granted → Reply → Step
widened txn_run cache number server left granted said =
    on_hearing txn_run.task cache txn_run.suites txn_run.phase number server (heard_at (suite_of txn_run.suites number) said)
    (λ suite. widen_all txn_run.task cache (with_suite number suite txn_run.suites) granted left)

-- a server was asked for the content of a suite
abbrev pub given : Fixed → TransactionRun → Cache → ℕ → ℕ → Reply → Step
given fixed txn_run cache number server said = fetched fixed txn_run.task cache txn_run.suites number (suite_of txn_run.suites number) server (given_in said)

-- ---- as the calls name them

-- a transaction that gathered nothing yet is executed, and there is a transaction's run, unless it is at its end at once
abbrev pub begun : Fixed → Task → Cache → Step
begun fixed task cache = execute fixed task (record { suites = []; cache = cache })

abbrev pub Begins : Step → Option TransactionRun → Cache → Type 0
Begins step txn_run cache = (cache ≡ step.cache) × (option_map Running txn_run ≡ left Running step.after)

-- what was asked was not served
abbrev pub lacked : Fixed → TransactionRun → Cache → Lack → Step
lacked fixed txn_run cache lack = taken fixed txn_run cache (request_of fixed txn_run) (Lacked lack)

abbrev pub held_by : Resources → TransactionRun → ℕ → ℕ → Reply → Step
held_by resources txn_run number server said = held (fixed_by resources) txn_run resources.cache.entries number server said

-- it was by the server that it asks; where it asks nobody, nothing comes of it
abbrev pub held_from : Fixed → TransactionRun → Cache → ℕ → Option ℕ → Reply → Step
held_from fixed txn_run cache number (Some server) said = held fixed txn_run cache number server said
held_from fixed txn_run cache number None said = record { cache = cache; after = GoesOn txn_run }

abbrev pub held_where_asked : Resources → TransactionRun → ℕ → Reply → Step
held_where_asked resources txn_run number said = held_from (fixed_by resources) txn_run resources.cache.entries number (asks_in txn_run number) said

abbrev pub given_by : Resources → TransactionRun → ℕ → ℕ → Reply → Step
given_by resources txn_run number server said = given (fixed_by resources) txn_run resources.cache.entries number server said

-- it is executed once something was learned
abbrev pub executed : Resources → TransactionRun → Learned → Step
executed resources txn_run just_learned = execute (fixed_by resources) txn_run.task (learned just_learned resources.cache txn_run.suites)

-- a suite that is gathered has a quorum, by whatever reply says this
abbrev pub CompletesBy : Resources → TransactionRun → ℕ → ℕ → Told → Flow → TransactionRun → Resources → Type 0
CompletesBy resources txn_run number server last flow left after =
    (said : Reply) → CompletesAt (suite_of txn_run.suites number) last said → IsStep resources (held_by resources txn_run number server said) flow left after

-- a suite is gathered
abbrev pub gathers : TransactionRun → Cache → ℕ → Step
gathers txn_run cache number = gather_again txn_run.task cache txn_run.suites number (suite_of txn_run.suites number)

-- suites are widened: those that are left, whatever they are
abbrev pub widens : TransactionRun → Cache → Granted → List ℕ → Step
widens txn_run cache granted left = widen_all txn_run.task cache txn_run.suites granted left

abbrev pub WidensOn : TransactionRun → Flow → TransactionRun → Type 0
WidensOn before flow after =
    (number : ℕ) (left : List ℕ) (granted : Granted) (cache : Cache) → before.phase ≡ Widening (number ∷ left) granted → GoesBy (widens before cache granted left) flow after cache

-- a suite that is widened was answered
abbrev pub IsWidenedBy : TransactionRun → ℕ → ℕ → Reply → Flow → TransactionRun → Type 0
IsWidenedBy before number server said flow after =
    (left : List ℕ) (granted : Granted) (cache : Cache) → before.phase ≡ Widening (number ∷ left) granted → GoesBy (widened before cache number server left granted said) flow after cache

-- the same by the server that it asks; where it asks nobody, nothing comes of it
abbrev pub IsWidenedFrom : Option ℕ → TransactionRun → ℕ → Reply → Flow → TransactionRun → Type 0
IsWidenedFrom (Some server) before number said flow after = IsWidenedBy before number server said flow after
IsWidenedFrom None before number said flow after = (flow ≡ On) × (after ≡ before)

-- the end was told to one server: the next is told it, or none is left
abbrev pub TellsNext : Flow → List ℕ → Ending → ℕ → List ℕ → Ending → Type 0
TellsNext On servers ending next left kept = (servers ≡ next ∷ left) × (kept ≡ ending)
TellsNext (Ended how) servers ending next left kept = (servers ≡ []) × (how ≡ ending)
