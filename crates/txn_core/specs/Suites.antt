-- What a transaction gathered of the suites that it locked, and what it so knows of them.
use Rattle.std.specs.Prelude.{ℕ, ◌==◌, Bool, if◌then◌else◌, List, [], ◌∷◌, unwrap_or, is_some, Option, Some, None}
use Rattle.std.specs.List.{list_any}
use Rattle.std.specs.Ordering.{nat_cmp}
use Rattle.sorted_map.specs.SortedMap.{get, insert}
use Rattle.suite_content.specs.declared.content.Content.{Content}
use Rattle.suite_content.specs.Contents.{empty_content}
use Rattle.suite_prefix.specs.declared.copies.Prefix.{Prefix}
use Rattle.suite_prefix.specs.declared.copies.PrefixKind.{PrefixKind}
use Rattle.suite_prefix.specs.declared.copies.PrefixKind.TheVariants as kind
use Rattle.suite_prefix.specs.Copies.{held_by}
use Rattle.file_ops.specs.Rows.{Row}
use Rattle.suite_prefix.specs.declared.lock_mode.LockMode.{LockMode}
use Rattle.suite_prefix.specs.declared.lock_mode.LockMode.TheVariants.{Shared, Exclusive}
use Rattle.file_exec.specs.KnownSuites.{KnownSuite}
use Rattle.file_exec.specs.Known.{Known}
pub use Rattle.suite_collect.specs.declared.read_point.ReadPoint.{ReadPoint}
use Rattle.suite_collect.specs.declared.told.Told.{Told}
use Rattle.suite_collect.specs.Telling.{holds, shown}
use Rattle.suite_collect.specs.Collecting.{Collector, all_told}

-- a suite that was asked for: its collector; what the first Current gave; in which mode a Current was had last; and its content, once it is there
pub record GatheredSuite : Type 0 where
  pub collector : Collector
  pub first : Option ReadPoint
  pub mode : LockMode
  pub content : Option Content

-- by their numbers, which rise
abbrev pub Suites : Type 0
Suites = List (ℕ × GatheredSuite)

abbrev pub suite_of : Suites → ℕ → Option GatheredSuite
suite_of suites suite = get nat_cmp suites suite

abbrev pub with_suite : ℕ → GatheredSuite → Suites → Suites
with_suite suite found suites = insert nat_cmp suites suite found

-- what was told of it
abbrev pub told_in : Option GatheredSuite → List Told
told_in (Some suite) = all_told suite.collector
told_in None = []

abbrev pub told_at : Suites → ℕ → List Told
told_at suites number = told_in (suite_of suites number)

-- ---- what is known

-- the row that a prefix and a content make; what was never made has none
abbrev pub row_with : PrefixKind → Prefix → Option Content → Option Row
row_with kind.Absent prefix content = None
row_with made prefix content =
    Some (record { owner = prefix.owner; group = prefix.group; acl = prefix.acl; votes = prefix.votes; content = unwrap_or content (empty_content (held_by made)) })

abbrev pub known_row : GatheredSuite → ReadPoint → KnownSuite
known_row suite first =
    record { mode = suite.mode; row = row_with first.prefix.kind first.prefix suite.content; opened = is_some suite.content }

-- what is known of the suites that had a Current
abbrev pub known_if : ℕ → GatheredSuite → Option ReadPoint → Known → Known
known_if number suite (Some first) known = (number, known_row suite first) ∷ known
known_if number suite None known = known

abbrev pub known_of : Suites → Known
known_of [] = []
known_of (one ∷ suites) = known_if one.0 one.1 one.1.first (known_of suites)

-- ---- locks

-- the servers that answered that a lock is held, and the mode in which they hold it
abbrev pub holds_lock : GatheredSuite → ℕ → Bool
holds_lock suite server = holds Shared (all_told suite.collector) server

abbrev pub holds_exclusively : GatheredSuite → ℕ → Bool
holds_exclusively suite server = holds Exclusive (all_told suite.collector) server

abbrev pub lock_mode : GatheredSuite → ℕ → LockMode
lock_mode suite server = if holds_exclusively suite server then Exclusive else Shared

-- whether a server holds a lock on any suite
abbrev pub has_locks : Suites → ℕ → Bool
has_locks suites server = list_any (λ one. holds_lock one.1 server) suites

-- ---- Currents

-- the first of these servers that showed a version; another, where none did
abbrev pub source_of : Collector → ℕ → List ℕ → ℕ
source_of collector dver [] = 0
source_of collector dver (server ∷ servers) = if shown collector.told server == dver then server else source_of collector dver servers

-- the first Current stays
abbrev pub first_or : Option ReadPoint → ReadPoint → Option ReadPoint
first_or (Some first) new = Some first
first_or None new = Some new

abbrev pub settled : Prefix → ℕ → List ℕ → GatheredSuite → GatheredSuite
settled prefix dver members suite = record suite {
  first = first_or suite.first (record { prefix = prefix; dver = dver; source = source_of suite.collector dver members });
  mode = suite.collector.mode;
}
