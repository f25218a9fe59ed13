-- A run in which one sets the list of a file while two read it, step by step in turn. It is refused, and each reader is answered, by computation.
use Rattle.std.specs.Prelude.{◌≡◌, ℕ, zero, suc, true, List, [], ◌∷◌, ◌++◌}
use Rattle.suite_prefix.specs.SettingsRules.{Opening}
use Rattle.file_ops.specs.declared.answer.Answer.TheVariants as answer
use Rattle.txn_core.specs.declared.ending.Ending.TheVariants.{Answered, Undecided}
use Rattle.txn_core.specs.declared.ending.Cause.TheVariants.{Busy}
use Rattle.txn_core.specs.declared.job.Job.TheVariants.{Transaction}
use Rattle.txn_core.specs.Runs.{owner, other}
use Rattle.run_core.specs.declared.event.Event.{Event}
use Rattle.run_core.specs.declared.event.Event.TheVariants.{Begin, Step}
use Rattle.law_headline.specs.Worked.{with_caches}
use Rattle.law_runs.specs.Worked.{close_a, read_a}
use Rattle.law_run_recovers.specs.Clashing.{Begun, OneIsDecidedOf, only_reads}
use Rattle.law_run_recovers.specs.Beside.{its_asks}
use Rattle.law_run_recovers.specs.BesideWorked.{two_made}
use Rattle.law_run_recovers.specs.Readers.{ReadersMeet}
use Rattle.law_run_recovers.specs.Worked.{endings_in}

abbrev pub three_agents : Opening
three_agents = record with_caches { agents = 3 }

-- two readers take a step each, and then who writes
abbrev pub turns_of_three : ℕ → List Event
turns_of_three zero = []
turns_of_three (suc more) = Step 0 ∷ Step 2 ∷ Step 1 ∷ turns_of_three more

-- all but the owner are to be kept from the first of the two files
abbrev pub closed_while_read : List Event
closed_while_read = Begin 0 (Transaction owner 0 read_a) ∷ Begin 1 (Transaction owner 0 close_a) ∷ Begin 2 (Transaction other 0 read_a) ∷ turns_of_three 12

pub record SomeRunsMeetReaders : Type 0 where
  pub writer : Begun three_agents two_made closed_while_read
  pub reader : Begun three_agents two_made closed_while_read
  pub meets : ReadersMeet three_agents two_made closed_while_read writer
  pub reads : only_reads (its_asks three_agents two_made closed_while_read reader) ≡ true
  pub ends : endings_in three_agents (two_made ++ closed_while_read) ≡
      (0, Answered (answer.Made 1 ∷ answer.Made 2 ∷ []))
      ∷ (1, Undecided (Busy 0 2)) ∷ (64, Answered (answer.Read [] ∷ [])) ∷ (2, Answered (answer.Read [] ∷ [])) ∷ []
  pub so : OneIsDecidedOf three_agents two_made closed_while_read writer reader
