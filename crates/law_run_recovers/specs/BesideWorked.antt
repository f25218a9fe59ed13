-- Runs in which two users go side by side, by computation.
use Rattle.std.specs.Prelude.{◌≡◌, ℕ, zero, suc, List, [], ◌∷◌, ◌++◌}
use Rattle.file_ops.specs.declared.answer.Answer.TheVariants as answer
use Rattle.txn_core.specs.declared.ending.Ending.TheVariants.{Answered}
use Rattle.txn_core.specs.declared.job.Job.TheVariants.{Transaction}
use Rattle.txn_core.specs.Runs.{owner, a}
use Rattle.run_core.specs.declared.event.Event.{Event}
use Rattle.run_core.specs.declared.event.Event.TheVariants.{Begin, Step, Crash}
use Rattle.law_runs.specs.Worked.{so_many}
use Rattle.law_headline.specs.Worked.{with_caches}
use Rattle.law_run_recovers.specs.Beside.{GoSideBySide}
use Rattle.law_run_recovers.specs.BesideDown.{GoSideBySideWhileDown}
use Rattle.law_run_recovers.specs.Contending.{b, makes, puts}
use Rattle.law_run_recovers.specs.Worked.{endings_in}

-- two files are made, at three servers of which two are a quorum
abbrev pub two_made : List Event
two_made = Begin 0 (Transaction owner 0 (makes a ∷ makes b ∷ [])) ∷ so_many 20 0

-- two agents take steps in turn
abbrev pub turns : ℕ → List Event
turns zero = []
turns (suc more) = Step 0 ∷ Step 1 ∷ turns more

-- each writes a file of its own
abbrev pub two_write : List Event
two_write = Begin 0 (Transaction owner 0 (puts a 0 ∷ [])) ∷ Begin 1 (Transaction owner 0 (puts b 1 ∷ [])) ∷ turns 16

-- and so they do while the first server is down, which both ask before the two others
abbrev pub first_down : List Event
first_down = two_made ++ Crash 0 ∷ []

pub record SomeRunsGoSideBySide : Type 0 where
  pub goes : GoSideBySide with_caches two_made two_write
  pub ends : endings_in with_caches (two_made ++ two_write) ≡
      (0, Answered (answer.Made 1 ∷ answer.Made 2 ∷ [])) ∷ (64, Answered (answer.Wrote ∷ [])) ∷ (1, Answered (answer.Wrote ∷ [])) ∷ []
  pub go_while_down : GoSideBySideWhileDown with_caches first_down two_write
  pub end_while_down : endings_in with_caches (first_down ++ two_write) ≡
      (0, Answered (answer.Made 1 ∷ answer.Made 2 ∷ [])) ∷ (64, Answered (answer.Wrote ∷ [])) ∷ (1, Answered (answer.Wrote ∷ [])) ∷ []
