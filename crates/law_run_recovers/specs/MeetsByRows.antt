-- Two that meet and begin alone, where votes of files may have been set before: by the votes that are in effect as they begin, which the rows of the table have.
use Rattle.std.specs.Prelude.{◌++◌, ◌==◌, ◌∷◌, ◌≡◌, ◌⊎◌, List, Some, false, true, ℕ}
use Rattle.suite_prefix.specs.SettingsRules.{Opening}
use Rattle.suite_prefix.specs.declared.lock_mode.LockMode.{LockMode}
use Rattle.run_core.specs.Runs.{run}
use Rattle.run_core.specs.declared.event.Event.{Event}
use Rattle.law_headline.specs.Premises.{CanBe}
use Rattle.law_run_alone.specs.Alone.{all_idle}
use Rattle.law_run_alone.specs.Undisturbed.{all_up, no_locks}
use Rattle.law_run_recovers.specs.Clashing.{AreTight, Begun, OneIsDecidedOf, SetsApart, clashes, first_clash, votes_now}
use Rattle.law_run_recovers.specs.Beside.{its_asks, spoils}
use Rattle.law_run_recovers.specs.Meets.{its_votes}

-- ---- the premise

-- As TheyMeet, but the votes of the suite at which they meet, that are tight for both, are those of its row; and neither sets votes of what the other asks for.
pub record TheyMeetByRows (given : Opening) (events later : List Event) (one other : Begun given events later) : Type 0 where
  pub can : CanBe given (events ++ later)
  pub idle : all_idle (run given events) ≡ true
  pub up : all_up (run given events) ≡ true
  pub free : no_locks (run given events) ≡ true
  pub unspoiled : (before after : List Event) (event : Event) → later ≡ before ++ event ∷ after → spoils given (run given (events ++ before)) event ≡ false
  pub two : (one.t == other.t) ≡ false
  pub alone : (third : Begun given events later) → (third.before ≡ one.before) ⊎ (third.before ≡ other.before)
  pub suite : ℕ
  pub mine : LockMode
  pub theirs : LockMode
  pub first : first_clash (its_asks given events later one) (its_asks given events later other) ≡ Some (suite, mine)
  pub other_first : first_clash (its_asks given events later other) (its_asks given events later one) ≡ Some (suite, theirs)
  pub not_both_raise : clashes (suite, mine) (suite, theirs) ≡ true
  pub tight : AreTight (votes_now given events suite) suite (its_asks given events later one) (its_asks given events later other)
  pub sets_apart : SetsApart given events (its_votes given events later one) (its_asks given events later other)
  pub other_sets_apart : SetsApart given events (its_votes given events later other) (its_asks given events later one)

-- ---- what is promised

-- Once both have ended, one of them was decided.
abbrev pub OneThatMeetsByRowsIsDecidedAt : Opening → List Event → Type 0
OneThatMeetsByRowsIsDecidedAt given events =
    (later : List Event) (one other : Begun given events later) → TheyMeetByRows given events later one other
    → OneIsDecidedOf given events later one other
