-- What an agent keeps in its cache, and holds of a suite that it asked for, as the suite's register had it.
use Rattle.std.specs.Prelude.{◌≡◌, ℕ, ◌<◌, List, Contains, Option, Some, None}
use Rattle.suite_content.specs.declared.content.Content.{Content}
use Rattle.suite_collect.specs.Collecting.{told_since}
use Rattle.weak_cache.specs.Entries as weak
use Rattle.weak_cache.specs.Entries.{Cache}
use Rattle.txn_core.specs.Suites.{ReadPoint, GatheredSuite, suite_of}
use Rattle.txn_core.specs.Doing.{Doing, Running, RunningSweep}
use Rattle.txn_core.specs.Agents.{Agent}
use Rattle.run_core.specs.Worlds as worlds
use Rattle.run_core.specs.Worlds.{Actor, actor_at}
use Rattle.law_suite_machine.specs.Registers.{Beginning, Entry, WasPrefix, WasContent, GoesWith}
use Rattle.law_suite_machine.specs.Machine.{Told, World}
use Rattle.law_run_machine.specs.Telling.{told_to, AreTold}

-- ---- caches

-- a hint was the register's prefix, and a content of a version above 0 its content at that version; the two need not be of one time
pub record EntryWas (start : Beginning) (log : List Entry) (entry : weak.Entry) : Type 0 where
  pub prefix : WasPrefix start log entry.prefix
  pub content : 0 < entry.dver → WasContent start log entry.dver entry.content

-- each entry of the suite
abbrev pub CacheWas : ℕ → Beginning → List Entry → Cache → Type 0
CacheWas z start log cache = (entry : weak.Entry) → Contains cache entry → entry.suite ≡ z → EntryWas start log entry

-- ---- what a transaction holds of the suite

-- the machine told the transaction at this server of a copy with this version
pub record ToldVersion (w : World) (t i : ℕ) (dver : ℕ) : Type 0 where
  pub told : Told
  pub is : w.told i t ≡ Some told
  pub dver_is : told.copy.dver ≡ dver

-- what the first Current gave: the prefix was the register's, and of a version above 0 the source has told
pub record FirstWas (start : Beginning) (w : World) (t : ℕ) (first : ReadPoint) : Type 0 where
  pub prefix : WasPrefix start w.log first.prefix
  pub source : 0 < first.dver → ToldVersion w t first.source first.dver

-- a suite that was asked for: the prefix from which it was gathered was the register's; what it was told the machine told it; and the content, once it is
-- there, goes with what the first Current gave
pub record SuiteWas (start : Beginning) (w : World) (t : ℕ) (suite : GatheredSuite) : Type 0 where
  pub from : WasPrefix start w.log suite.collector.start
  pub told : AreTold (told_to w t) suite.collector.told
  pub since : AreTold (told_to w t) (told_since suite.collector.widening)
  pub first : (first : ReadPoint) → suite.first ≡ Some first → FirstWas start w t first
  pub content : (content : Content) → suite.content ≡ Some content → (first : ReadPoint) × (suite.first ≡ Some first) × GoesWith start w.log first.prefix first.dver content

-- ---- agents

abbrev pub DoingWas : ℕ → Beginning → World → Option Doing → Type 0
DoingWas z start w (Some (Running txn_run)) = (suite : GatheredSuite) → suite_of txn_run.suites z ≡ Some suite → SuiteWas start w txn_run.task.t suite
DoingWas z start w (Some (RunningSweep sweep_run)) = Unit {0}
DoingWas z start w None = Unit {0}

pub record AgentWas (z : ℕ) (start : Beginning) (w : World) (agent : Agent) : Type 0 where
  pub cache : CacheWas z start w.log agent.cache
  pub doing : DoingWas z start w agent.doing

-- every agent of a world
abbrev pub AllWere : ℕ → Beginning → World → worlds.World → Type 0
AllWere z start w world = (number : ℕ) (actor : Actor) → actor_at world number ≡ Some actor → AgentWas z start w actor.agent
