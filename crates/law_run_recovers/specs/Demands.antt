-- Of which suites a transaction needs votes, how many, and how many of them servers have that answer it. Each such need is a demand; it is met where
-- these servers have as many votes as are needed.
use Rattle.std.specs.List.{list_all, list_any}
use Rattle.std.specs.Prelude.{◌&&◌, ◌==◌, ◌∷◌, ◌≡◌, ◌⊎◌, Bool, Err, List, None, Ok, Option, Result, Some, [], filter, find, if◌then◌else◌, length, map, nat_le, nat_lt, option_map, suc, zero, ℕ}
use Rattle.acl_core.specs.Identity.{Identity}
use Rattle.vote_core.specs.Quorums.{Configuration, Representative, votes_in}
use Rattle.suite_prefix.specs.Absent.{absent_prefix}
use Rattle.suite_prefix.specs.LockModes.{serves}
use Rattle.suite_prefix.specs.declared.copies.Prefix.{Prefix}
use Rattle.suite_prefix.specs.declared.lock_mode.LockMode.{LockMode}
use Rattle.file_ops.specs.Rows.{PlainTable, Row, Rows, row_of}
use Rattle.file_ops.specs.declared.answer.Answer.{Answer}
use Rattle.file_ops.specs.declared.operation.Op.{Op}
use Rattle.file_ops.specs.declared.refusal.Refusal.{Refusal}
use Rattle.file_exec.specs.Changes.{changes_at, makes, sets_acl, sets_votes, some}
use Rattle.file_exec.specs.Following.{Edits, Ended, ending, is_set, needs, seen}
use Rattle.file_exec.specs.Operations.{transaction}
use Rattle.file_exec.specs.declared.changes.Change.{Change}
use Rattle.file_exec.specs.declared.need.Need.{Need}
use Rattle.file_exec.specs.declared.need.Need.TheVariants.{Hold, Know}
use Rattle.suite_collect.specs.Collecting.{needed_of}
use Rattle.weak_cache.specs.Cache.{hint}
use Rattle.weak_cache.specs.Entries.{Cache}
use Rattle.txn_core.specs.Doing.{Changes, Fixed}
use Rattle.run_core.specs.Worlds.{World}
use Rattle.law_run_recovers.specs.Standing.{shown_at}

-- ---- where a suite's votes are found

-- Who looks for a suite has some prefix of it, which may be old, and asks the servers that have a vote by it. One that shows a newer prefix tells of newer
-- votes, and then the servers are asked that have a vote by those.

-- Who looks for a suite has some prefix of it, which may be old, and asks the servers that have a vote by it. One that shows a newer prefix tells of newer
-- votes, and then the servers are asked that have a vote by those.

-- what the first of the voting members of a prefix shows, in listed order, that answers and shows a newer one
abbrev pub shows_newer_by : Fixed → World → (ℕ → Bool) → ℕ → Prefix → Representative → Bool
shows_newer_by fixed world answers suite prefix rep = nat_lt 0 rep.1 && answers rep.0 && nat_lt prefix.pver (shown_at fixed world suite rep.0).pver

abbrev pub newer_by : Fixed → World → (ℕ → Bool) → ℕ → Prefix → Option Prefix
newer_by fixed world answers suite prefix = option_map (λ (rep : Representative). shown_at fixed world suite rep.0) (find (shows_newer_by fixed world answers suite prefix) prefix.votes.reps)

-- From a prefix to the one that is so shown, and so on, until none that answers shows a newer one: at most as often as there are servers, since each is
-- newer than the one before, and a server shows one.
abbrev pub led_on : Prefix → Option Prefix → (Prefix → Prefix) → Prefix
led_on prefix (Some newer) go_on = go_on newer
led_on prefix None go_on = prefix

abbrev pub led_so_far_by : ℕ → Fixed → World → (ℕ → Bool) → ℕ → Prefix → Prefix
led_so_far_by zero fixed world answers suite prefix = prefix
led_so_far_by (suc more) fixed world answers suite prefix = led_on prefix (newer_by fixed world answers suite prefix) (λ newer. led_so_far_by more fixed world answers suite newer)

abbrev pub led_to_by : Fixed → World → (ℕ → Bool) → ℕ → Prefix → Prefix
led_to_by fixed world answers suite start = led_so_far_by (length world.servers) fixed world answers suite start

-- ---- what is locked

-- The locks that a transaction asks for on the rows of a table, in its order: of each suite in the mode that it needs there, unless it has asked for that
-- mode or a stronger one before.
abbrev pub has_asked : List (ℕ × LockMode) → ℕ → LockMode → Bool
has_asked asked suite mode = list_any (λ one. (one.0 == suite) && serves one.1 mode) asked

abbrev pub not_asked : List (ℕ × LockMode) → List Need → List (ℕ × LockMode)
not_asked asked [] = []
not_asked asked (Hold suite mode ∷ later) = if has_asked asked suite mode then not_asked asked later else (suite, mode) ∷ not_asked ((suite, mode) ∷ asked) later
not_asked asked (Know suite ∷ later) = not_asked asked later

abbrev pub locks_asked : PlainTable → ℕ → Identity → List Op → List (ℕ × LockMode)
locks_asked table t caller ops = not_asked [] (needs (row_of table.rows) [] (transaction table.service t caller ops))

-- what it sets on these rows, suite by suite, the suites rising, with the row after it; where it is refused, nothing
abbrev pub change_in : Rows → Edits → ℕ → Option Change
change_in rows edits suite = option_map (λ (row : Row). record {
  made = some makes edits suite;
  acl = some sets_acl edits suite;
  votes = some sets_votes edits suite;
  content = is_set edits suite;
  row = row;
}) (seen edits suite (row_of rows suite))

abbrev pub changes_on : Rows → Result (Ended (List Answer)) Refusal → Changes
changes_on rows (Ok ended) = changes_at (change_in rows ended.edits) ended.edits
changes_on rows (Err refusal) = []

-- the suites that it makes, or of which it sets the votes, rising, with their new votes
abbrev pub votes_set : PlainTable → ℕ → Identity → List Op → List (ℕ × Configuration)
votes_set table t caller ops =
    let changes = changes_on table.rows (ending (row_of table.rows) [] (transaction table.service t caller ops)) in
    map (λ (one : ℕ × Change). (one.0, one.1.row.votes)) (filter (λ (one : ℕ × Change). one.1.votes) changes)

-- ---- demands

-- of this suite so many votes are up, and so many needed; where too few are up a transaction that goes alone tells these numbers as it ends
pub record Demand : Type 0 where
  pub suite : ℕ
  pub got : ℕ
  pub needed : ℕ

-- what it takes to lock a suite in a mode, by these votes: votes to read for a shared lock, votes to write for an exclusive one
abbrev pub demand_by : (ℕ → Bool) → ℕ → LockMode → Configuration → Demand
demand_by answers suite mode votes = record { suite = suite; got = votes_in votes.reps answers; needed = needed_of mode votes }

abbrev pub is_met : Demand → Bool
is_met demand = nat_le demand.needed demand.got

-- The same by the votes of the table's own rows, not as they are found. What has no row has the votes with which the service opened.
abbrev pub votes_of_row : Fixed → Option Row → Configuration
votes_of_row fixed (Some row) = row.votes
votes_of_row fixed None = fixed.service.c0

abbrev pub all_met : List Demand → Bool
all_met all = list_all is_met all

-- ---- from where

-- A suite may be looked for from the prefix of what was never made, or from the one that the cache hints of it for the site. It may be the first though
-- there is a hint, since the hint may go as the transaction itself puts into the cache what it fetched.
abbrev pub MayStart : Fixed → Cache → ℕ → ℕ → Prefix → Type 0
MayStart fixed cache site suite start = (start ≡ absent_prefix fixed.service.c0) ⊎ (hint cache site suite ≡ Some start)

abbrev pub MayStartAll : Fixed → Cache → ℕ → (ℕ → Prefix) → Type 0
MayStartAll fixed cache site start = (suite : ℕ) → MayStart fixed cache site suite (start suite)
