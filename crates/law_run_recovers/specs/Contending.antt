-- Runs in which transactions that meet all end undecided, by computation. All servers are up, no lock is left from before, nobody crashes, sweeps or lacks
-- anything, and each agent begins one transaction and goes on to its end. So it is not promised that of such transactions one is decided.
use Rattle.std.specs.Prelude.{◌≡◌, ℕ, true, List, [], ◌∷◌, ◌++◌, None}
use Rattle.vote_core.specs.Quorums.{Representative, Configuration}
use Rattle.suite_prefix.specs.SettingsRules.{Opening}
use Rattle.suite_content.specs.declared.content.Kind.TheVariants.{File}
use Rattle.file_ops.specs.declared.answer.Answer.TheVariants as answer
use Rattle.file_ops.specs.declared.operation.Action.TheVariants as action
use Rattle.file_ops.specs.declared.operation.Init.TheVariants.{Mode}
use Rattle.file_ops.specs.declared.operation.Op.{Op}
use Rattle.txn_core.specs.declared.ending.Ending.TheVariants.{Answered, Undecided}
use Rattle.txn_core.specs.declared.ending.Cause.TheVariants.{Busy}
use Rattle.txn_core.specs.declared.job.Job.TheVariants.{Transaction}
use Rattle.txn_core.specs.Runs.{settings, owner, a, op}
use Rattle.run_core.specs.declared.event.Event.{Event}
use Rattle.run_core.specs.declared.event.Event.TheVariants.{Begin}
use Rattle.run_core.specs.Runs.{run}
use Rattle.law_runs.specs.Worked.{so_many}
use Rattle.law_run_alone.specs.Undisturbed.{all_up}
use Rattle.law_run_recovers.specs.Standing.{all_free}
use Rattle.law_run_recovers.specs.Worked.{endings_in}

-- servers with a vote each of the first, and some agents
abbrev pub contest : ℕ → ℕ → List Representative → ℕ → ℕ → Opening
contest servers agents reps r w = record (settings servers 0 r w) { agents = agents; c0 = record { reps = reps; r = r; w = w } }

abbrev pub one_server : Opening
one_server = contest 1 2 ((0, 1) ∷ []) 1 1

-- `/b`
abbrev pub b : List ℕ
b = 47 ∷ 98 ∷ []

-- file PATH 666
abbrev pub makes : List ℕ → Op
makes path = op path (action.Make File (Mode 438) None)

-- write PATH with one byte
abbrev pub puts : List ℕ → ℕ → Op
puts path byte = op path (action.Write (byte ∷ []))

-- ---- two files in opposite orders

abbrev pub both_made : List Event
both_made = Begin 0 (Transaction owner 0 (makes a ∷ makes b ∷ [])) ∷ so_many 14 0

-- Each locks its first file, and finds the second one locked.
abbrev pub crossed : List Event
crossed =
    both_made
    ++ Begin 0 (Transaction owner 0 (puts a 0 ∷ puts b 0 ∷ [])) ∷ Begin 1 (Transaction owner 0 (puts b 1 ∷ puts a 1 ∷ [])) ∷ []
    ++ so_many 3 0 ++ so_many 4 1 ++ so_many 1 0 ++ so_many 14 0 ++ so_many 14 1

pub record NoneOfTwoCrossed : Type 0 where
  pub up : all_up (run one_server both_made) ≡ true
  pub free : all_free (run one_server both_made) ≡ true
  pub ends : endings_in one_server crossed ≡ (0, Answered (answer.Made 1 ∷ answer.Made 2 ∷ [])) ∷ (64, Undecided (Busy 0 1)) ∷ (1, Undecided (Busy 0 64)) ∷ []

-- ---- one file, read and then written

abbrev pub a_made : List Event
a_made = Begin 0 (Transaction owner 0 (makes a ∷ [])) ∷ so_many 16 0

-- Each has it shared, and finds the other's shared lock when it is to be exclusive.
abbrev pub both_raise : List Event
both_raise =
    a_made
    ++ Begin 0 (Transaction owner 0 (op a action.Read ∷ puts a 0 ∷ [])) ∷ Begin 1 (Transaction owner 0 (op a action.Read ∷ puts a 1 ∷ [])) ∷ []
    ++ so_many 4 0 ++ so_many 5 1 ++ so_many 14 0 ++ so_many 14 1

pub record NoneOfTwoThatRaise : Type 0 where
  pub up : all_up (run one_server a_made) ≡ true
  pub free : all_free (run one_server a_made) ≡ true
  pub ends : endings_in one_server both_raise ≡ (0, Answered (answer.Made 1 ∷ [])) ∷ (64, Undecided (Busy 0 1)) ∷ (1, Undecided (Busy 0 64)) ∷ []

-- ---- one of two raises what both read first

-- Both come to one file first and to the other one then. But they are not in each other's way at the first until the one is to write it.
abbrev pub one_raises : List Event
one_raises =
    both_made
    ++ Begin 0 (Transaction owner 0 (op a action.Read ∷ puts b 0 ∷ puts a 0 ∷ [])) ∷ Begin 1 (Transaction owner 0 (op a action.Read ∷ puts b 1 ∷ [])) ∷ []
    ++ so_many 5 0 ++ so_many 5 1 ++ so_many 14 0 ++ so_many 14 1

pub record NoneOfTwoOfWhichOneRaises : Type 0 where
  pub up : all_up (run one_server both_made) ≡ true
  pub free : all_free (run one_server both_made) ≡ true
  pub ends : endings_in one_server one_raises ≡ (0, Answered (answer.Made 1 ∷ answer.Made 2 ∷ [])) ∷ (64, Undecided (Busy 0 1)) ∷ (1, Undecided (Busy 0 64)) ∷ []

-- ---- more votes needed than leave a majority to one of two

abbrev pub write_all : Opening
write_all = contest 2 2 ((0, 1) ∷ (1, 1) ∷ []) 1 2

-- Each takes one of the two votes that both need.
abbrev pub one_each : List Event
one_each =
    a_made
    ++ Begin 0 (Transaction owner 0 (puts a 0 ∷ [])) ∷ Begin 1 (Transaction owner 0 (puts a 1 ∷ [])) ∷ []
    ++ so_many 3 0 ++ so_many 4 1 ++ so_many 1 0 ++ so_many 14 0 ++ so_many 14 1

pub record NoneOfTwoThatWriteAll : Type 0 where
  pub up : all_up (run write_all a_made) ≡ true
  pub free : all_free (run write_all a_made) ≡ true
  pub ends : endings_in write_all one_each ≡ (0, Answered (answer.Made 1 ∷ [])) ∷ (64, Undecided (Busy 1 1)) ∷ (1, Undecided (Busy 0 64)) ∷ []

-- ---- three that write one file

abbrev pub three_agents : Opening
three_agents = contest 3 3 ((0, 1) ∷ (1, 1) ∷ (2, 1) ∷ []) 2 2

-- Two of three votes are enough, and each takes one.
abbrev pub three_write : List Event
three_write =
    a_made
    ++ Begin 0 (Transaction owner 0 (puts a 0 ∷ [])) ∷ Begin 1 (Transaction owner 0 (puts a 1 ∷ [])) ∷ Begin 2 (Transaction owner 0 (puts a 2 ∷ [])) ∷ []
    ++ so_many 4 0 ++ so_many 5 1 ++ so_many 6 2 ++ so_many 2 0 ++ so_many 1 1 ++ so_many 14 0 ++ so_many 14 1 ++ so_many 14 2

pub record NoneOfThree : Type 0 where
  pub up : all_up (run three_agents a_made) ≡ true
  pub free : all_free (run three_agents a_made) ≡ true
  pub ends : endings_in three_agents three_write ≡ (0, Answered (answer.Made 1 ∷ [])) ∷ (64, Undecided (Busy 1 1)) ∷ (1, Undecided (Busy 0 64)) ∷ (2, Undecided (Busy 0 64)) ∷ []

-- ---- votes are set

abbrev pub at_the_last : Configuration
at_the_last = record { reps = (2, 1) ∷ []; r = 1; w = 1 }

-- The one that wins the file sets its votes to the server that the other has taken.
abbrev pub set_there : List Event
set_there =
    a_made
    ++ Begin 0 (Transaction owner 0 (op a (action.SetVotes at_the_last) ∷ [])) ∷ Begin 1 (Transaction owner 0 (puts a 1 ∷ [])) ∷ []
    ++ so_many 5 0 ++ so_many 6 1 ++ so_many 14 0 ++ so_many 14 1

pub record NoneOfTwoThatSetVotes : Type 0 where
  pub up : all_up (run three_agents a_made) ≡ true
  pub free : all_free (run three_agents a_made) ≡ true
  pub ends : endings_in three_agents set_there ≡ (0, Answered (answer.Made 1 ∷ [])) ∷ (64, Undecided (Busy 2 1)) ∷ (1, Undecided (Busy 0 64)) ∷ []

-- ---- all of them

pub record SomeRunsStarve : Type 0 where
  pub crossed : NoneOfTwoCrossed
  pub raised : NoneOfTwoThatRaise
  pub one_raises : NoneOfTwoOfWhichOneRaises
  pub write_all : NoneOfTwoThatWriteAll
  pub three : NoneOfThree
  pub votes_set : NoneOfTwoThatSetVotes
