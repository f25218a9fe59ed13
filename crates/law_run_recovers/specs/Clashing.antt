-- Transactions that begin in some events: where two clash, and by which votes.
use Rattle.std.specs.List.{list_any}
use Rattle.std.specs.Prelude.{◌&&◌, ◌++◌, ◌+◌, ◌==◌, ◌||◌, ◌∷◌, ◌≡◌, ◌⊎◌, Bool, Contains, List, None, Option, Some, find, not, true, ℕ}
use Rattle.acl_core.specs.Identity.{Identity}
use Rattle.vote_core.specs.Quorums.{Configuration, total_votes}
use Rattle.suite_prefix.specs.LockModes.{is_exclusive}
use Rattle.suite_prefix.specs.SettingsRules.{Opening}
use Rattle.suite_prefix.specs.declared.lock_mode.LockMode.{LockMode}
use Rattle.file_ops.specs.Rows.{Row, row_of}
use Rattle.file_ops.specs.declared.operation.Op.{Op}
use Rattle.suite_collect.specs.Collecting.{needed_of}
use Rattle.txn_core.specs.Agents.{fixed_of}
use Rattle.txn_core.specs.declared.job.Job.TheVariants.{Transaction}
use Rattle.run_core.specs.Runs.{run}
use Rattle.run_core.specs.TableOfRun.{table_of}
use Rattle.run_core.specs.declared.done.EndedJob.{EndedJob}
use Rattle.run_core.specs.declared.event.Event.{Event}
use Rattle.run_core.specs.declared.event.Event.TheVariants.{Begin}
use Rattle.law_run_alone.specs.Alone.{begins_job}
use Rattle.law_run_alone.specs.Undisturbed.{is_decided}
use Rattle.law_run_recovers.specs.Demands.{votes_of_row}
use Rattle.law_run_recovers.specs.Ends.{EndsThen}

-- ---- what they ask for

-- a transaction that an agent begins in these events, which come after others, and what follows its begin
pub record Begun (given : Opening) (events later : List Event) : Type 0 where
  pub before : List Event
  pub after : List Event
  pub agent : ℕ
  pub t : ℕ
  pub caller : Identity
  pub site : ℕ
  pub ops : List Op
  pub parts : later ≡ before ++ Begin agent (Transaction caller site ops) ∷ after
  pub begins : begins_job given (run given (events ++ before)) (Begin agent (Transaction caller site ops)) ≡ Some (t, Transaction caller site ops)

-- Two lists of locks clash where both have a suite, and one of them has it exclusive.
abbrev pub clashes : ℕ × LockMode → ℕ × LockMode → Bool
clashes one other = (one.0 == other.0) && (is_exclusive one.1 || is_exclusive other.1)

-- the first lock that one asks for and that clashes with one of the other's
abbrev pub first_clash : List (ℕ × LockMode) → List (ℕ × LockMode) → Option (ℕ × LockMode)
first_clash asked others = find (λ one. list_any (clashes one) others) asked

-- Of what it asks for nothing is exclusive; so is one that is denied a read, or that reads a list.
abbrev pub only_reads : List (ℕ × LockMode) → Bool
only_reads asked = not (list_any (λ one. is_exclusive one.1) asked)

-- ---- votes

-- the votes of no row differ from the first ones, nor do those that a transaction sets
abbrev pub HasFirstVotes : Configuration → Option Row → Type 0
HasFirstVotes c0 (Some row) = row.votes ≡ c0
HasFirstVotes c0 None = Unit {0}

-- By these votes two locks of a suite that clash need one vote more than there are. So of two that want one each, and of which one is short of votes, the
-- votes that the other has are enough.
abbrev pub AreTight : Configuration → ℕ → List (ℕ × LockMode) → List (ℕ × LockMode) → Type 0
AreTight votes suite asked others =
    (mine theirs : LockMode) → Contains asked (suite, mine) → Contains others (suite, theirs) → clashes (suite, mine) (suite, theirs) ≡ true
    → needed_of mine votes + needed_of theirs votes ≡ total_votes votes.reps + 1

-- the votes that a suite has after some events, by its row; what has none has the opening votes
abbrev pub votes_now : Opening → List Event → ℕ → Configuration
votes_now given events suite = votes_of_row (fixed_of given) (row_of (table_of given events).rows suite)

-- of these votes that one is to set each is what the suite has already, or of a suite that the other does not ask for
abbrev pub SetsApart : Opening → List Event → List (ℕ × Configuration) → List (ℕ × LockMode) → Type 0
SetsApart given events set others =
    (one : ℕ × Configuration) → Contains set one → (one.1 ≡ votes_now given events one.0) ⊎ ((mode : LockMode) → Contains others (one.0, mode) → ⊥)

-- ---- what is promised of two

-- what is promised of two: once both have ended, one of them was decided
abbrev pub OneIsDecidedOf : (given : Opening) (events later : List Event) (one two : Begun given events later) → Type 0
OneIsDecidedOf given events later one two =
    (job outcome : EndedJob) → EndsThen given (events ++ one.before) one.after one.agent one.t one.caller one.site one.ops job
    → EndsThen given (events ++ two.before) two.after two.agent two.t two.caller two.site two.ops outcome
    → (is_decided job.ending || is_decided outcome.ending) ≡ true
