-- Runs in which others are beside those that meet, by computation: one begins again and again at a file of its own, and once memory runs out for it.
use Rattle.std.specs.Prelude.{◌≡◌, ℕ, zero, suc, List, [], ◌∷◌, ◌++◌}
use Rattle.suite_prefix.specs.SettingsRules.{Opening}
use Rattle.file_ops.specs.declared.answer.Answer.TheVariants as answer
use Rattle.rep_core.specs.declared.stamped.Lack.TheVariants as lack
use Rattle.txn_core.specs.declared.ending.Ending.TheVariants.{Answered, Undecided}
use Rattle.txn_core.specs.declared.ending.Cause.TheVariants.{Busy, Memory}
use Rattle.txn_core.specs.declared.job.Job.TheVariants.{Transaction}
use Rattle.txn_core.specs.Runs.{owner, other, a}
use Rattle.run_core.specs.declared.event.Event.{Event}
use Rattle.run_core.specs.declared.event.Event.TheVariants.{Begin, Step, Lack}
use Rattle.law_headline.specs.Worked.{with_caches}
use Rattle.law_runs.specs.Worked.{close_a, read_a, so_many}
use Rattle.law_run_recovers.specs.Clashing.{Begun, OneIsDecidedOf}
use Rattle.law_run_recovers.specs.BesideWorked.{two_made}
use Rattle.law_run_recovers.specs.Contending.{b, puts}
use Rattle.law_run_recovers.specs.MeetsBeside.{TheyMeetBeside, ReaderMeetsBeside}
use Rattle.law_run_recovers.specs.ReadersWorked.{three_agents, turns_of_three}
use Rattle.law_run_recovers.specs.Worked.{endings_in}

-- ---- two write a file

-- As they begin a third is in the middle of a write of the second file; it begins another one, and memory runs out for it.
abbrev pub mid_write : List Event
mid_write = two_made ++ Begin 2 (Transaction owner 0 (puts b 2 ∷ [])) ∷ so_many 4 2

abbrev pub writes_beside : List Event
writes_beside =
    Begin 0 (Transaction owner 0 (puts a 0 ∷ [])) ∷ Begin 1 (Transaction owner 0 (puts a 1 ∷ [])) ∷ turns_of_three 6
    ++ Begin 2 (Transaction owner 0 (puts b 3 ∷ [])) ∷ turns_of_three 2 ++ Lack 2 lack.Memory ∷ turns_of_three 4

pub record SomeRunsMeetBeside : Type 0 where
  pub one : Begun three_agents mid_write writes_beside
  pub two : Begun three_agents mid_write writes_beside
  pub meets : TheyMeetBeside three_agents mid_write writes_beside one two
  pub ends : endings_in three_agents (mid_write ++ writes_beside) ≡
      (0, Answered (answer.Made 1 ∷ answer.Made 2 ∷ [])) ∷ (2, Answered (answer.Wrote ∷ [])) ∷ (1, Undecided (Busy 0 64)) ∷ (64, Answered (answer.Wrote ∷ []))
      ∷ (66, Undecided Memory) ∷ []
  pub so : OneIsDecidedOf three_agents mid_write writes_beside one two

-- ---- one sets the list of a file that others read

abbrev pub four_agents : Opening
four_agents = record with_caches { agents = 4 }

abbrev pub turns_of_four : ℕ → List Event
turns_of_four zero = []
turns_of_four (suc more) = Step 0 ∷ Step 2 ∷ Step 3 ∷ Step 1 ∷ turns_of_four more

-- agent 3 writes the second file, and again; agents 0 and 2 read the first one, and agent 1 sets its list
abbrev pub fourth_writes : List Event
fourth_writes = two_made ++ Begin 3 (Transaction owner 0 (puts b 2 ∷ [])) ∷ so_many 4 3

abbrev pub reads_beside : List Event
reads_beside =
    Begin 0 (Transaction owner 0 read_a) ∷ Begin 1 (Transaction owner 0 close_a) ∷ Begin 2 (Transaction other 0 read_a) ∷ turns_of_four 6
    ++ Begin 3 (Transaction owner 0 (puts b 3 ∷ [])) ∷ turns_of_four 10

pub record SomeRunsMeetReadersBeside : Type 0 where
  pub writer : Begun four_agents fourth_writes reads_beside
  pub reader : Begun four_agents fourth_writes reads_beside
  pub meets : ReaderMeetsBeside four_agents fourth_writes reads_beside writer reader
  pub ends : endings_in four_agents (fourth_writes ++ reads_beside) ≡
      (0, Answered (answer.Made 1 ∷ answer.Made 2 ∷ [])) ∷ (3, Answered (answer.Wrote ∷ [])) ∷ (1, Undecided (Busy 0 2)) ∷ (64, Answered (answer.Read [] ∷ []))
      ∷ (2, Answered (answer.Read [] ∷ [])) ∷ (67, Answered (answer.Wrote ∷ [])) ∷ []
  pub so : OneIsDecidedOf four_agents fourth_writes reads_beside writer reader
