-- What a transaction changed that is not decided: nothing.
use Rattle.std.specs.Prelude.{◌≡◌, ℕ, ◌<◌, ◌==◌, not, List, ◌++◌, filter, Contains, Some}
use Rattle.suite_prefix.specs.SettingsRules.{Opening}
use Rattle.suite_prefix.specs.declared.copies.Prefix.{Prefix}
use Rattle.suite_prefix.specs.declared.copies.Replica.{Replica}
use Rattle.suite_content.specs.declared.content.Content.{Content}
use Rattle.file_ops.specs.Rows as rows
use Rattle.file_ops.specs.Rows.{PlainTable, Row, row_of}
use Rattle.weak_cache.specs.Entries.{Entry}
use Rattle.rep_core.specs.Store.{Store, without_intentions, copy_in_effect}
use Rattle.run_core.specs.declared.event.Event.{Event}
use Rattle.run_core.specs.Worlds.{Actor, actor_at}
use Rattle.run_core.specs.Runs.{run}
use Rattle.run_core.specs.Decisions.{Decided, decisions}
use Rattle.run_core.specs.TableOfRun.{table_after_all, table_of}
use Rattle.law_run_machine.specs.Machines.{servers_of}
use Rattle.law_one_table.specs.Effects.{answered_in, copy_at, HasHead}
use Rattle.law_one_table.specs.Versions.{RowVersions}

-- the decisions of the other transactions
abbrev pub of_others : ℕ → List Decided → List Decided
of_others t all = filter (λ one. not (one.t == t)) all

-- the table of a run without the transaction's decision
abbrev pub table_without : Opening → List Event → ℕ → PlainTable
table_without given events t = table_after_all (rows.opening given) (of_others t (decisions given events))

-- a store with the transaction's intentions taken out
abbrev pub store_without : ℕ → Store → Store
store_without t store = record store { intentions = without_intentions t store.intentions }

-- the copy of a suite that would be in effect at a server where the transaction's intentions were taken out
abbrev pub copy_without : Opening → List Event → ℕ → ℕ → ℕ → Replica
copy_without given events t z server = copy_in_effect (store_without t (servers_of given (run given events) server).store) (answered_in given events) z

-- the table without it had such a row of a suite, after some of these events
pub record OthersHad (given : Opening) (events : List Event) (t z : ℕ) (P : List Event → Row → Type 0) : Type 0 where
  pub before : List Event
  pub later : List Event
  pub parts : events ≡ before ++ later
  pub row : Row
  pub there : row_of (table_without given before t).rows z ≡ Some row
  pub is : P before row

-- A prefix and a content are of rows that the table without it had, at their versions, where these are above 0.
pub record AreOfOthers (given : Opening) (at : RowVersions) (events : List Event) (t z : ℕ) (prefix : Prefix) (dver : ℕ) (content : Content) : Type 0 where
  pub of_prefix : 0 < prefix.pver → OthersHad given events t z (λ before row. ((at before z).prefix ≡ prefix.pver) × HasHead row prefix)
  pub of_content : 0 < dver → OthersHad given events t z (λ before row. ((at before z).content ≡ dver) × (row.content ≡ content))

-- After these events the table is the one without the transaction's decision. At each server, of each suite, the copy in effect is the one that would be
-- without its intentions. And all that is in effect, or in a cache, is of the table without it. The rows have these versions.
pub record ChangedNothing (given : Opening) (at : RowVersions) (events : List Event) (t : ℕ) : Type 0 where
  pub table : table_of given events ≡ table_without given events t
  pub copies : (z server : ℕ) → copy_at given events z server ≡ copy_without given events t z server
  pub effects : (z server : ℕ) → let copy = copy_at given events z server in AreOfOthers given at events t z copy.prefix copy.dver copy.content
  pub caches : (number : ℕ) (actor : Actor) (entry : Entry) → actor_at (run given events) number ≡ Some actor → Contains actor.agent.cache entry
      → AreOfOthers given at events t entry.suite entry.prefix entry.dver entry.content
