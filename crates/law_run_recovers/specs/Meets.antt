-- Two that meet and begin alone, where votes were never moved.
use Rattle.std.specs.Prelude.{◌++◌, ◌==◌, ◌∷◌, ◌≡◌, ◌⊎◌, Contains, List, Some, false, true, ℕ}
use Rattle.vote_core.specs.Quorums.{Configuration}
use Rattle.suite_prefix.specs.SettingsRules.{Opening}
use Rattle.suite_prefix.specs.declared.lock_mode.LockMode.{LockMode}
use Rattle.run_core.specs.Runs.{run}
use Rattle.run_core.specs.TableOfRun.{table_of}
use Rattle.run_core.specs.declared.event.Event.{Event}
use Rattle.law_headline.specs.Premises.{CanBe}
use Rattle.law_run_alone.specs.Alone.{all_idle}
use Rattle.law_run_alone.specs.Undisturbed.{all_up, no_locks}
use Rattle.law_run_recovers.specs.Demands.{votes_set}
use Rattle.law_run_recovers.specs.Further.{VotesNeverMovedOf}
use Rattle.law_run_recovers.specs.Clashing.{AreTight, Begun, OneIsDecidedOf, clashes, first_clash}
use Rattle.law_run_recovers.specs.Beside.{its_asks, spoils}

-- ---- the premise

-- the votes that it is to set, of what it makes too, on the table as it begins
abbrev pub its_votes : (given : Opening) (events later : List Event) → Begun given events later → List (ℕ × Configuration)
its_votes given events later one = votes_set (table_of given (events ++ one.before)) one.t one.caller one.ops

-- Two transactions begin, and no other job, where every agent was idle, every server up and no lock left; and nothing spoils these events. What they ask for first that
-- clashes is of one suite, in modes that clash: so not both read it and then write it. The votes of that suite are tight for both, and votes of what they ask
-- for were never moved, nor do they move any.
pub record TheyMeet (given : Opening) (events later : List Event) (one other : Begun given events later) : Type 0 where
  pub can : CanBe given (events ++ later)
  pub idle : all_idle (run given events) ≡ true
  pub up : all_up (run given events) ≡ true
  pub free : no_locks (run given events) ≡ true
  pub unspoiled : (before after : List Event) (event : Event) → later ≡ before ++ event ∷ after → spoils given (run given (events ++ before)) event ≡ false
  pub two : (one.t == other.t) ≡ false
  pub alone : (third : Begun given events later) → (third.before ≡ one.before) ⊎ (third.before ≡ other.before)
  pub suite : ℕ
  pub mine : LockMode
  pub theirs : LockMode
  pub first : first_clash (its_asks given events later one) (its_asks given events later other) ≡ Some (suite, mine)
  pub other_first : first_clash (its_asks given events later other) (its_asks given events later one) ≡ Some (suite, theirs)
  pub not_both_raise : clashes (suite, mine) (suite, theirs) ≡ true
  pub tight : AreTight given.c0 suite (its_asks given events later one) (its_asks given events later other)
  pub unmoved : VotesNeverMovedOf given events (its_asks given events later one)
  pub other_unmoved : VotesNeverMovedOf given events (its_asks given events later other)
  pub moves_none : (set : ℕ × Configuration) → Contains (its_votes given events later one) set → set.1 ≡ given.c0
  pub other_moves_none : (set : ℕ × Configuration) → Contains (its_votes given events later other) set → set.1 ≡ given.c0

-- ---- what is promised

-- Once both have ended, one of them was decided.
abbrev pub OneThatMeetsIsDecidedAt : Opening → List Event → Type 0
OneThatMeetsIsDecidedAt given events =
    (later : List Event) (one other : Begun given events later) → TheyMeet given events later one other
    → OneIsDecidedOf given events later one other
