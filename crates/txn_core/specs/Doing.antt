-- What an agent is doing.
use Rattle.std.specs.Prelude.{ℕ, ◌+◌, ◌%◌, ◌/◌, List, Result}
use Rattle.suite_prefix.specs.SettingsRules.{max_agents}
use Rattle.acl_core.specs.Identity.{Identity}
use Rattle.file_ops.specs.declared.answer.Answer.{Answer}
use Rattle.file_ops.specs.declared.operation.Op.{Op}
use Rattle.file_ops.specs.declared.refusal.Refusal.{Refusal}
use Rattle.file_exec.specs.declared.changes.Change.{Change}
use Rattle.file_ops.specs.declared.service.Service.{Service}
use Rattle.rep_core.specs.declared.lock.Lock.{Lock}
use Rattle.rep_core.specs.declared.reply.Verdict.{Verdict}
use Rattle.txn_core.specs.declared.ending.Ending.{Ending}
use Rattle.weak_cache.specs.Cache.{Limits}
use Rattle.txn_core.specs.Suites.{Suites}

-- the service, and what a cache may keep; they never change
pub record Fixed : Type 0 where
  pub service : Service
  pub limits : Limits

-- a transaction: its number, and what was asked
pub record Task : Type 0 where
  pub t : ℕ
  pub caller : Identity
  pub site : ℕ
  pub ops : List Op

-- the server, among so many, at which it is decided how a transaction ended
abbrev pub home_among : ℕ → ℕ → ℕ
home_among servers t = (t % max_agents + t / max_agents) % servers

abbrev pub home_of : Service → ℕ → ℕ
home_of service t = home_among service.servers t

-- what is set of each suite, the suites rising
abbrev pub Changes : Type 0
Changes = List (ℕ × Change)

-- its answers, with what they set
pub record Granted : Type 0 where
  pub answers : List Answer
  pub changes : Changes

-- what its operations came to on what was gathered
abbrev pub Proposal : Type 0
Proposal = Result Granted Refusal

-- Where a transaction stands. It gathers a suite, or fetches its content; it widens the suites that get votes, the first of the list now;
-- it prepares at servers, the first of the list now; it has its outcome decided; or it tells servers how it ended, the first of the list now.
pub data Phase : Type 0 where
  Gathering : ℕ → Phase
  Fetching : ℕ → Phase
  Widening : List ℕ → Granted → Phase
  Preparing : List ℕ → Proposal → Phase
  Deciding : Proposal → Phase
  Finishing : List ℕ → Verdict → Ending → Phase

pub record TransactionRun : Type 0 where
  pub task : Task
  pub suites : Suites
  pub phase : Phase

-- Where a sweep stands: it lists the locks; it asks how a transaction ended, or tells it; or it breaks a lock. With it the locks that are left.
pub data Sweeping : Type 0 where
  Listing : Sweeping
  Resolving : ℕ → List Lock → Sweeping
  Telling : ℕ → Verdict → List Lock → Sweeping
  Breaking : Lock → List Lock → Sweeping

pub record SweepRun : Type 0 where
  pub server : ℕ
  pub broken : ℕ
  pub finished : ℕ
  pub left : ℕ
  pub now : Sweeping

pub data Doing : Type 0 where
  Running : TransactionRun → Doing
  RunningSweep : SweepRun → Doing

-- what comes of a response: it goes on, or is at an end
pub data After (D : Type 0) : Type 0 where
  GoesOn : D → After D
  Ends : Ending → After D
