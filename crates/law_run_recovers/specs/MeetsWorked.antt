-- A run in which two users meet: they write one file at once, step by step in turn. One is answered, by computation.
use Rattle.std.specs.Prelude.{◌++◌, ◌∷◌, ◌≡◌, List, []}
use Rattle.txn_core.specs.Runs.{a, op, owner}
use Rattle.txn_core.specs.declared.ending.Cause.TheVariants.{Busy}
use Rattle.txn_core.specs.declared.ending.Ending.TheVariants.{Answered, Undecided}
use Rattle.txn_core.specs.declared.job.Job.TheVariants.{Transaction}
use Rattle.run_core.specs.declared.event.Event.{Event}
use Rattle.run_core.specs.declared.event.Event.TheVariants.{Begin}
use Rattle.law_runs.specs.Worked.{so_many}
use Rattle.law_headline.specs.Worked.{with_caches}
use Rattle.file_ops.specs.declared.answer.Answer.TheVariants as answer
use Rattle.file_ops.specs.declared.operation.Action.TheVariants as action
use Rattle.law_run_recovers.specs.Clashing.{Begun, OneIsDecidedOf, votes_now}
use Rattle.law_run_recovers.specs.Meets.{TheyMeet}
use Rattle.law_run_recovers.specs.MeetsByRows.{TheyMeetByRows}
use Rattle.law_run_recovers.specs.BesideWorked.{turns, two_made}
use Rattle.law_run_recovers.specs.Contending.{at_the_last, puts}
use Rattle.law_run_recovers.specs.Worked.{endings_in}

-- each writes the first of the two files
abbrev pub two_meet : List Event
two_meet = Begin 0 (Transaction owner 0 (puts a 0 ∷ [])) ∷ Begin 1 (Transaction owner 0 (puts a 1 ∷ [])) ∷ turns 16

pub record SomeRunsMeet : Type 0 where
  pub one : Begun with_caches two_made two_meet
  pub other : Begun with_caches two_made two_meet
  pub meets : TheyMeet with_caches two_made two_meet one other
  pub ends : endings_in with_caches (two_made ++ two_meet) ≡
      (0, Answered (answer.Made 1 ∷ answer.Made 2 ∷ [])) ∷ (1, Undecided (Busy 0 64)) ∷ (64, Answered (answer.Wrote ∷ [])) ∷ []
  pub so : OneIsDecidedOf with_caches two_made two_meet one other

-- ---- where votes were moved

-- before that the first file's votes are set to the last server alone; the second looks for it by the old ones
abbrev pub votes_moved : List Event
votes_moved = two_made ++ Begin 0 (Transaction owner 0 (op a (action.SetVotes at_the_last) ∷ [])) ∷ so_many 20 0

pub record SomeRunsMeetByRows : Type 0 where
  pub one : Begun with_caches votes_moved two_meet
  pub other : Begun with_caches votes_moved two_meet
  pub meets : TheyMeetByRows with_caches votes_moved two_meet one other
  pub moved : votes_now with_caches votes_moved 1 ≡ at_the_last
  pub ends : endings_in with_caches (votes_moved ++ two_meet) ≡
      (0, Answered (answer.Made 1 ∷ answer.Made 2 ∷ [])) ∷ (64, Answered (answer.Set ∷ [])) ∷ (1, Undecided (Busy 0 128)) ∷ (128, Answered (answer.Wrote ∷ [])) ∷ []
  pub so : OneIsDecidedOf with_caches votes_moved two_meet one other
