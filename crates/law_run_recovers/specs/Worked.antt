-- Runs of which the laws say something, by computation.
use Rattle.std.specs.Prelude.{◌≡◌, ℕ, true, false, List, [], ◌∷◌, ◌++◌, length, map, Some}
use Rattle.vote_core.specs.Quorums.{Configuration}
use Rattle.acl_core.specs.Identity.{Identity}
use Rattle.suite_prefix.specs.Absent.{absent_prefix}
use Rattle.suite_prefix.specs.SettingsRules.{Opening}
use Rattle.suite_prefix.specs.declared.lock_mode.LockMode.TheVariants.{Shared, Exclusive}
use Rattle.suite_content.specs.declared.content.Kind.TheVariants.{File}
use Rattle.file_ops.specs.declared.answer.Answer.TheVariants as answer
use Rattle.file_ops.specs.declared.operation.Action.TheVariants as action
use Rattle.file_ops.specs.declared.operation.Init.TheVariants.{Mode}
use Rattle.file_ops.specs.declared.operation.Op.{Op}
use Rattle.txn_core.specs.declared.ending.Ending.{Ending}
use Rattle.txn_core.specs.declared.ending.Ending.TheVariants.{Answered, Undecided, Swept}
use Rattle.txn_core.specs.declared.ending.Cause.TheVariants.{Unavailable, HomeDown}
use Rattle.txn_core.specs.declared.job.Job.TheVariants.{Transaction}
use Rattle.txn_core.specs.Doing.{home_of}
use Rattle.txn_core.specs.Agents.{fixed_of}
use Rattle.txn_core.specs.Runs.{settings, owner, other, a, op}
use Rattle.run_core.specs.declared.event.Event.{Event}
use Rattle.run_core.specs.declared.event.Event.TheVariants.{Begin, Crash, Return}
use Rattle.run_core.specs.Runs.{run}
use Rattle.run_core.specs.TableOfRun.{table_of}
use Rattle.law_runs.specs.Claims.{ended}
use Rattle.law_runs.specs.Worked.{two_agents, so_many, make_a, write_a, read_a, ending_in}
use Rattle.law_run_recovers.specs.Standing.{is_up, locks_at, all_free, in_doubt, holders}
use Rattle.law_run_recovers.specs.Up.{up_free, demands, demands_of_rows, first_short}
use Rattle.law_run_recovers.specs.Demands.{all_met, locks_asked}
use Rattle.law_run_recovers.specs.Ends.{ending_by, answer_on}
use Rattle.law_run_recovers.specs.Sweeping.{sweeps, goes_round}

-- how a transaction is to end that begins after these events, where nothing is hinted
abbrev pub to_end : Opening → List Event → ℕ → Identity → List Op → Ending
to_end given events t caller ops =
    ending_by (first_short (demands (fixed_of given) (run given events) (table_of given events) t caller ops (λ suite. absent_prefix given.c0)))
    (is_up (run given events) (home_of (fixed_of given).service t)) (answer_on (table_of given events) t caller ops)

abbrev pub endings_in : Opening → List Event → List (ℕ × Ending)
endings_in given events = map ending_in (ended given events)

-- ---- votes that are up and are not found

-- six servers, of which two have a vote each at first; one of them is enough to read
abbrev pub two_of_six : Opening
two_of_six = record (settings 6 0 1 2) { agents = 2; c0 = record { reps = (3, 1) ∷ (4, 1) ∷ []; r = 1; w = 2 } }

abbrev pub first_three : Configuration
first_three = record { reps = (0, 1) ∷ (1, 1) ∷ (2, 1) ∷ []; r = 2; w = 2 }

abbrev pub last_one : Configuration
last_one = record { reps = (5, 1) ∷ []; r = 1; w = 1 }

-- A file is made at the first three servers. While server 3 is down its votes are moved to server 5. Then only servers are up that do not know of it, and
-- server 5.
abbrev pub away : List Event
away =
    Begin 0 (Transaction owner 0 (op a (action.Make File (Mode 438) (Some first_three)) ∷ [])) ∷ so_many 16 0
    ++ Crash 3 ∷ Begin 0 (Transaction owner 0 (op a (action.SetVotes last_one) ∷ [])) ∷ so_many 18 0
    ++ Return 3 ∷ Crash 4 ∷ Crash 0 ∷ Crash 1 ∷ []

-- the row's votes are up, and still the file cannot be read
pub record AreNotFound : Type 0 where
  pub rows_up : all_met (demands_of_rows (fixed_of two_of_six) (run two_of_six away) (table_of two_of_six away) 1 other read_a) ≡ true
  pub not_found : to_end two_of_six away 1 other read_a ≡ Undecided (Unavailable 1 1 2)
  pub so_it_ends : endings_in two_of_six (away ++ Begin 1 (Transaction other 0 read_a) ∷ so_many 8 1) ≡
      (0, Answered (answer.Made 1 ∷ [])) ∷ (64, Answered (answer.Set ∷ [])) ∷ (1, Undecided (Unavailable 1 1 2)) ∷ []

-- The same, but for server 0, which is down too when the votes are moved, while servers 1 and 2 get to know of it; and then servers 2 and 4 crash.
-- So server 3 tells of the first three, of which one is up; and that one tells of server 5.
abbrev pub led_twice : List Event
led_twice =
    Begin 0 (Transaction owner 0 (op a (action.Make File (Mode 438) (Some first_three)) ∷ [])) ∷ so_many 16 0
    ++ Crash 3 ∷ Crash 0 ∷ Begin 0 (Transaction owner 0 (op a (action.SetVotes last_one) ∷ [])) ∷ so_many 19 0
    ++ Return 3 ∷ Crash 4 ∷ Crash 2 ∷ []

-- votes are found where servers that are up tell of them one after the other
pub record AreFoundTwiceOn : Type 0 where
  pub found_twice_on : to_end two_of_six led_twice 1 other read_a ≡ Answered (answer.Read [] ∷ [])
  pub so_it_is_read : endings_in two_of_six (led_twice ++ Begin 1 (Transaction other 0 read_a) ∷ so_many 14 1) ≡
      (0, Answered (answer.Made 1 ∷ [])) ∷ (64, Answered (answer.Set ∷ [])) ∷ (1, Answered (answer.Read [] ∷ [])) ∷ []

-- ---- fewer votes to write than to read

abbrev pub many_to_read : Opening
many_to_read = record (settings 3 0 1 3) { agents = 2 }

abbrev pub all_to_read : Configuration
all_to_read = record { reps = (0, 1) ∷ (1, 1) ∷ (2, 1) ∷ []; r = 3; w = 2 }

abbrev pub one_down : List Event
one_down = Begin 0 (Transaction owner 0 (op a (action.Make File (Mode 438) (Some all_to_read)) ∷ [])) ∷ so_many 14 0 ++ Crash 2 ∷ []

abbrev pub write_and_read : List Op
write_and_read = op a (action.Write (0 ∷ [])) ∷ op a action.Read ∷ []

-- what is written can be read in the same transaction, and not alone
pub record FewerToWrite : Type 0 where
  pub asked : locks_asked (table_of many_to_read one_down) 1 owner write_and_read ≡ (0, Shared) ∷ (1, Exclusive) ∷ []
  pub both : to_end many_to_read one_down 1 owner write_and_read ≡ Answered (answer.Wrote ∷ answer.Read (0 ∷ []) ∷ [])
  pub alone : to_end many_to_read one_down 1 other read_a ≡ Undecided (Unavailable 1 2 3)
  pub both_end : endings_in many_to_read (one_down ++ Begin 1 (Transaction owner 0 write_and_read) ∷ so_many 9 1) ≡
      (0, Answered (answer.Made 1 ∷ [])) ∷ (1, Answered (answer.Wrote ∷ answer.Read (0 ∷ []) ∷ [])) ∷ []
  pub alone_ends : endings_in many_to_read (one_down ++ Begin 1 (Transaction other 0 read_a) ∷ so_many 7 1) ≡
      (0, Answered (answer.Made 1 ∷ [])) ∷ (1, Undecided (Unavailable 1 2 3)) ∷ []

-- ---- votes and home are missing

-- One server is enough to read, and all three to write. Server 1 crashes: it is the home of the other agent's first transaction.
abbrev pub home_down : List Event
home_down = Begin 0 (Transaction owner 0 make_a) ∷ so_many 14 0 ++ Crash 1 ∷ []

-- where votes and the home are missing, it ends for want of votes; where the home alone is, for want of the home
pub record AreMissing : Type 0 where
  pub both_missing : to_end many_to_read home_down 1 owner write_a ≡ Undecided (Unavailable 1 2 3)
  pub home_missing : to_end many_to_read home_down 1 other read_a ≡ Undecided HomeDown
  pub ends_unavailable : endings_in many_to_read (home_down ++ Begin 1 (Transaction owner 0 write_a) ∷ so_many 7 1) ≡
      (0, Answered (answer.Made 1 ∷ answer.Wrote ∷ [])) ∷ (1, Undecided (Unavailable 1 2 3)) ∷ []
  pub ends_home_down : endings_in many_to_read (home_down ++ Begin 1 (Transaction other 0 read_a) ∷ so_many 7 1) ≡
      (0, Answered (answer.Made 1 ∷ answer.Wrote ∷ [])) ∷ (1, Undecided HomeDown) ∷ []

-- ---- an agent stops for good

-- a write stands prepared at two servers, and its agent never goes on
abbrev pub stopped : List Event
stopped = Begin 0 (Transaction owner 0 make_a) ∷ so_many 10 0 ++ Begin 0 (Transaction owner 0 write_a) ∷ so_many 7 0

abbrev pub sweep_run : List (ℕ × List Event)
sweep_run = (0, so_many 3 1) ∷ (1, so_many 3 1) ∷ (2, so_many 1 1) ∷ []

abbrev pub swept : List Event
swept = stopped ++ sweeps 1 sweep_run

abbrev pub reads : List Event
reads = Begin 1 (Transaction other 0 read_a) ∷ so_many 11 1

-- after sweeps of all servers none has a lock, though an agent has stopped for good; and the next transaction is decided
pub record IsSweptAway : Type 0 where
  pub before : up_free (run two_agents stopped) ≡ false
  pub goes : goes_round two_agents 1 (run two_agents stopped) sweep_run ≡ true
  pub free : all_free (run two_agents swept) ≡ true
  pub then_read : endings_in two_agents (swept ++ reads) ≡
      (0, Answered (answer.Made 1 ∷ answer.Wrote ∷ [])) ∷ (1, Swept 0 1 0) ∷ (65, Swept 0 1 0) ∷ (129, Swept 0 0 0) ∷ (193, Answered (answer.Read (104 ∷ 105 ∷ []) ∷ [])) ∷ []

-- ---- a server crashes that has locks

-- one of the two servers, which keeps the prepared locks; the other is swept
abbrev pub left_behind : List Event
left_behind = stopped ++ Crash 0 ∷ sweeps 1 ((1, so_many 3 1) ∷ [])

-- what a server has that is down is in nobody's way
pub record IsInNoWay : Type 0 where
  pub kept_there : length (locks_at (run two_agents left_behind) 0) ≡ 2
  pub in_no_way : up_free (run two_agents left_behind) ≡ true
  pub to_be_read : to_end two_agents left_behind 65 other read_a ≡ Answered (answer.Read (104 ∷ 105 ∷ []) ∷ [])
  pub is_read : endings_in two_agents (left_behind ++ Begin 1 (Transaction other 0 read_a) ∷ so_many 13 1) ≡
      (0, Answered (answer.Made 1 ∷ answer.Wrote ∷ [])) ∷ (1, Swept 0 1 0) ∷ (65, Answered (answer.Read (104 ∷ 105 ∷ []) ∷ [])) ∷ []

-- ---- a home crashes

-- the home of that write, which is one of the two servers
abbrev pub in_the_dark : List Event
in_the_dark = stopped ++ Crash 1 ∷ []

-- as long as its home is up no lock of a write is in doubt; once that is down its two locks at a server are, and a sweep leaves this one transaction
pub record IsInDoubt : Type 0 where
  pub certain : in_doubt (fixed_of two_agents) (run two_agents stopped) (locks_at (run two_agents stopped) 0) ≡ []
  pub two_locks : length (locks_at (run two_agents in_the_dark) 0) ≡ 2
  pub one_holder : holders (locks_at (run two_agents in_the_dark) 0) ≡ 1
  pub doubtful : length (in_doubt (fixed_of two_agents) (run two_agents in_the_dark) (locks_at (run two_agents in_the_dark) 0)) ≡ 2
  pub one_left : endings_in two_agents (in_the_dark ++ sweeps 1 ((0, so_many 2 1) ∷ [])) ≡
      (0, Answered (answer.Made 1 ∷ answer.Wrote ∷ [])) ∷ (1, Swept 0 0 1) ∷ []

-- ---- all of them

pub record SomeRunsRecover : Type 0 where
  pub not_found : AreNotFound
  pub found_twice_on : AreFoundTwiceOn
  pub fewer_to_write : FewerToWrite
  pub missing : AreMissing
  pub swept_away : IsSweptAway
  pub in_no_way : IsInNoWay
  pub doubt : IsInDoubt
