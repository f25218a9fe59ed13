-- One transaction that writes, or sets a list, and any number that only read. Where they clash at one suite alone, and the votes to read it and those to
-- write it are one more than it has, the one is decided or each of the others is.
use Rattle.std.specs.List.{list_any}
use Rattle.std.specs.Prelude.{◌++◌, ◌+◌, ◌∷◌, ◌≡◌, ◌⊎◌, Contains, List, false, true, ℕ}
use Rattle.vote_core.specs.Quorums.{Configuration, total_votes}
use Rattle.suite_prefix.specs.SettingsRules.{Opening}
use Rattle.suite_prefix.specs.declared.lock_mode.LockMode.{LockMode}
use Rattle.file_ops.specs.Rows.{row_of}
use Rattle.run_core.specs.Runs.{run}
use Rattle.run_core.specs.TableOfRun.{table_of}
use Rattle.run_core.specs.declared.event.Event.{Event}
use Rattle.law_headline.specs.Premises.{CanBe}
use Rattle.law_run_alone.specs.Alone.{all_idle}
use Rattle.law_run_alone.specs.Undisturbed.{all_up, no_locks}
use Rattle.law_run_recovers.specs.Clashing.{Begun, HasFirstVotes, OneIsDecidedOf, clashes, only_reads}
use Rattle.law_run_recovers.specs.Beside.{its_asks, spoils}
use Rattle.law_run_recovers.specs.Meets.{its_votes}

-- ---- the premise

-- As TheyMeet, but of the transactions that begin, each as often as it likes, all but the writer only read; what it asks for that clashes with what one of
-- them asks for is one suite. The votes of that suite were never moved, nor does the writer move them, and r + w is one more than the votes there are.
pub record ReadersMeet (given : Opening) (events later : List Event) (writer : Begun given events later) : Type 0 where
  pub can : CanBe given (events ++ later)
  pub idle : all_idle (run given events) ≡ true
  pub up : all_up (run given events) ≡ true
  pub free : no_locks (run given events) ≡ true
  pub unspoiled : (before after : List Event) (event : Event) → later ≡ before ++ event ∷ after → spoils given (run given (events ++ before)) event ≡ false
  pub others_read : (other : Begun given events later) → (other.before ≡ writer.before) ⊎ (only_reads (its_asks given events later other) ≡ true)
  pub suite : ℕ
  pub at_it : (reader : Begun given events later) (one : ℕ × LockMode) → only_reads (its_asks given events later reader) ≡ true
      → Contains (its_asks given events later writer) one → list_any (clashes one) (its_asks given events later reader) ≡ true → one.0 ≡ suite
  pub tight : given.c0.r + given.c0.w ≡ total_votes given.c0.reps + 1
  pub unmoved : (before after : List Event) → events ≡ before ++ after → HasFirstVotes given.c0 (row_of (table_of given before).rows suite)
  pub moves_none : (votes : Configuration) → Contains (its_votes given events later writer) (suite, votes) → votes ≡ given.c0

-- ---- what is promised

-- Once the writer has ended, and a reader, one of both was decided: so the writer was, or each reader that ended.
abbrev pub WriterOrReadersAreDecidedAt : Opening → List Event → Type 0
WriterOrReadersAreDecidedAt given events =
    (later : List Event) (writer reader : Begun given events later) → ReadersMeet given events later writer → only_reads (its_asks given events later reader) ≡ true
    → OneIsDecidedOf given events later writer reader
