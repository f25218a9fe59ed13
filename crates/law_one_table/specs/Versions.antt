-- The versions of the table's rows: how they rise, and how copies in effect and caches go by them.
use Rattle.std.specs.Prelude.{◌≡◌, ◌≢◌, ℕ, ◌<◌, ◌≤◌, Bool, List, ◌++◌, Contains, option_map, Option, Some, None}
use Rattle.suite_content.specs.declared.content.Content.{Content}
use Rattle.suite_content.specs.Contents.{empty_content}
use Rattle.suite_prefix.specs.SettingsRules.{Opening}
use Rattle.suite_prefix.specs.Absent.{absent_prefix}
use Rattle.suite_prefix.specs.Copies.{held_by}
use Rattle.suite_prefix.specs.declared.copies.Prefix.{Prefix}
use Rattle.suite_prefix.specs.declared.copies.Replica.{Replica}
use Rattle.file_ops.specs.Rows.{Row, row_of}
use Rattle.file_exec.specs.Following.{head}
use Rattle.weak_cache.specs.Entries.{Entry}
use Rattle.run_core.specs.declared.event.Event.{Event}
use Rattle.run_core.specs.Worlds.{Actor, actor_at}
use Rattle.run_core.specs.Runs.{run}
use Rattle.run_core.specs.TableOfRun.{table_of}
use Rattle.law_suite_machine.specs.Machine.{IsQuorum}
use Rattle.law_one_table.specs.Tables.{AllKeepSides}
use Rattle.law_one_table.specs.Effects.{copy_at, HasOne, HasHead, Versions, IsInEffect}

-- the row of a suite in the table of a run
abbrev pub row_at : Opening → List Event → ℕ → Option Row
row_at given events z = row_of (table_of given events).rows z

-- versions of the rows of all suites, after each list of events
abbrev pub RowVersions : Type 0
RowVersions = List Event → ℕ → Versions

-- ---- they rise

abbrev pub content_of : Option Row → Option Content
content_of row = option_map (λ (row : Row). row.content) row

-- From an earlier moment of a run to a later one no version falls, and each rises where what it is of differs.
pub record Rise (given : Opening) (at : RowVersions) (z : ℕ) (before now : List Event) : Type 0 where
  pub prefix : (at before z).prefix ≤ (at now z).prefix
  pub content : (at before z).content ≤ (at now z).content
  pub other_head : head (row_at given before z) ≢ head (row_at given now z) → (at before z).prefix < (at now z).prefix
  pub other_content : content_of (row_at given before z) ≢ content_of (row_at given now z) → (at before z).content < (at now z).content

-- ---- what the table had

-- the table had such a row of a suite, after some of these events
pub record HadRow (given : Opening) (events : List Event) (z : ℕ) (P : List Event → Row → Type 0) : Type 0 where
  pub before : List Event
  pub later : List Event
  pub parts : events ≡ before ++ later
  pub row : Row
  pub there : row_at given before z ≡ Some row
  pub is : P before row

-- a prefix that the table had at that version; one at version 0 is that of what was never made
pub record PrefixWas (given : Opening) (at : RowVersions) (events : List Event) (z : ℕ) (prefix : Prefix) : Type 0 where
  pub never : prefix.pver ≡ 0 → prefix ≡ absent_prefix given.c0
  pub had : 0 < prefix.pver → HadRow given events z (λ before row. ((at before z).prefix ≡ prefix.pver) × HasHead row prefix)

-- a content that the table had at this version, where that is above 0
abbrev pub ContentWas : Opening → RowVersions → List Event → ℕ → ℕ → Content → Type 0
ContentWas given at events z version content = 0 < version → HadRow given events z (λ before row. ((at before z).content ≡ version) × (row.content ≡ content))

-- a copy's prefix and content were so; a content at version 0 is empty
pub record CopyWas (given : Opening) (at : RowVersions) (events : List Event) (z : ℕ) (copy : Replica) : Type 0 where
  pub prefix : PrefixWas given at events z copy.prefix
  pub content : ContentWas given at events z copy.dver copy.content
  pub empty : copy.dver ≡ 0 → copy.content ≡ empty_content (held_by copy.prefix.kind)

-- and so an entry of a cache: its prefix, and its content where it has one above version 0
pub record EntryWas (given : Opening) (at : RowVersions) (events : List Event) (entry : Entry) : Type 0 where
  pub prefix : PrefixWas given at events entry.suite entry.prefix
  pub content : ContentWas given at events entry.suite entry.dver entry.content

-- ---- at one moment

pub record HoldAt (given : Opening) (at : RowVersions) (events : List Event) : Type 0 where
  -- what the table does not have is at version 0
  pub none : (z : ℕ) → row_at given events z ≡ None → ((at events z).prefix ≡ 0) × ((at events z).content ≡ 0)
  -- each row is in effect at its versions in every read and every write quorum of its votes, and no copy in effect is of a greater one
  pub in_effect : (z : ℕ) (row : Row) → row_at given events z ≡ Some row → IsInEffect given events z row (at events z)
  pub greatest : (z server : ℕ) → ((copy_at given events z server).prefix.pver ≤ (at events z).prefix) × ((copy_at given events z server).dver ≤ (at events z).content)
  -- each copy in effect, and each entry of a cache, was the table's
  pub copies : (z server : ℕ) → CopyWas given at events z (copy_at given events z server)
  pub caches : (number : ℕ) (actor : Actor) (entry : Entry) → actor_at (run given events) number ≡ Some actor → Contains actor.agent.cache entry → EntryWas given at events entry
  -- since an earlier moment versions have risen where rows differ
  pub rise : (before later : List Event) (z : ℕ) → events ≡ before ++ later → Rise given at z before events
  -- a row whose version was less then is replaced: every read and every write quorum of its votes has a newer prefix in effect
  pub replaced :
      (before later : List Event) (z : ℕ) (row : Row) (set : ℕ → Bool) → events ≡ before ++ later → row_at given before z ≡ Some row → (at before z).prefix < (at events z).prefix
      → IsQuorum row.votes set → HasOne given events z set (λ copy. (at before z).prefix < copy.prefix.pver)
  -- and so every quorum of the first votes, where a suite was made
  pub made : (z : ℕ) (set : ℕ → Bool) → 0 < (at events z).prefix → IsQuorum given.c0 set → HasOne given events z set (λ copy. 0 < copy.prefix.pver)

-- The rows of a run's table have versions, so that all this holds at each of its moments.
pub record HaveVersions (given : Opening) (events : List Event) : Type 0 where
  pub at : RowVersions
  pub hold : (before later : List Event) → events ≡ before ++ later → HoldAt given at before

-- It is so where agents keep to their side.
abbrev pub RowsHaveVersions : Type 0
RowsHaveVersions = (given : Opening) (events : List Event) → AllKeepSides given events → HaveVersions given events
