-- What is told of a script that is traced: the fault that `play` tells, and nothing else; or what it does, where it has none.
use Rattle.std.specs.Prelude.{◌≡◌, ℕ, true, if◌then◌else◌, List, [], ◌∷◌, codes, Option, Some, None, Result, Ok, Err}
use Rattle.std.specs.Str.{bytes_eq}
use Rattle.byte_streams.specs.Endings.{Lacks, TellsLine, done, faulty, no_stream}
use Rattle.byte_streams.specs.Programs.{RunsOn, Streams}
use Rattle.byte_streams.specs.Streams.{Adds, one_more}
use Rattle.suite_play.specs.Outputs.{play_output}
use Rattle.suite_script.specs.Faults.{fault_line}
use Rattle.suite_script.specs.Outputs.{Output, Done, Faulty, is_done}
use Rattle.suite_script.specs.declared.play_error.PlayError.{PlayError}
use Rattle.suite_script.specs.declared.play_error.PlayError.TheVariants as play
use Rattle.trace.specs.declared.teller.Form.{Form}
use Rattle.trace.specs.declared.teller.Form.TheVariants.{Lines, Events}

-- what may be told of a script before memory runs out: nothing, where it has a fault
abbrev pub MayTell : Output → List ℕ → Type 0
MayTell (Done text) told = Unit {0}
MayTell (Faulty line) told = told ≡ []

-- some text was told of it
pub record TellsOf (output : Output) (before after : Option (List ℕ)) : Type 0 where
  pub told : List ℕ
  pub may : MayTell output told
  pub added : Adds before told after

-- a script was traced: it has no fault; or this is its first, and nothing is written; or it has none, and a write failed; or memory ran out
abbrev pub Traces : Result (Unit {0}) PlayError → Output → Option (List ℕ) → Option (List ℕ) → ℕ → ℕ → Type 0
Traces (Ok nothing) output before after failures failures_after = (is_done output ≡ true) × (TellsOf output before after × (failures_after ≡ failures))
Traces (Err (play.Faulty fault)) output before after failures failures_after = (output ≡ Faulty (fault_line fault)) × ((after ≡ before) × (failures_after ≡ failures))
Traces (Err play.WriteFailed) output before after failures failures_after = (is_done output ≡ true) × (failures_after ≡ one_more failures)
Traces (Err play.Memory) output before after failures failures_after = TellsOf output before after × (failures_after ≡ failures)

-- what came of it was told, with its status: the line of the fault, or that memory ran out
abbrev pub TellsEnd : Result (Unit {0}) PlayError → ℕ → Option (List ℕ) → Option (List ℕ) → ℕ → ℕ → Type 0
TellsEnd (Ok nothing) status before after failures failures_after = (status ≡ done) × ((after ≡ before) × (failures_after ≡ failures))
TellsEnd (Err (play.Faulty fault)) status before after failures failures_after = TellsLine (fault_line fault) faulty status before after failures failures_after
TellsEnd (Err play.WriteFailed) status before after failures failures_after = (status ≡ no_stream) × ((after ≡ before) × (failures_after ≡ failures))
TellsEnd (Err play.Memory) status before after failures failures_after = Lacks status before after failures failures_after

-- a script was traced, and then it was told what came of it
pub record Ends (text : List ℕ) (before after : Option (List ℕ)) (failures failures_after status : ℕ) : Type 0 where
  pub came : Result (Unit {0}) PlayError
  pub now : Option (List ℕ)
  pub failures_now : ℕ
  pub traced : Traces came (play_output text) before now failures failures_now
  pub ended : TellsEnd came status now after failures_now failures_after

-- a script that the program reads was traced; or it was not read whole
abbrev pub Runs : Streams → ℕ → Type 0
Runs streams status =
    RunsOn (λ text. Ends text streams.written streams.written_after streams.failed_writes streams.failed_writes_after status) streams status streams.input

-- the form that words ask for: lines, or with `--json` objects
abbrev pub form_by : List (List ℕ) → Option Form
form_by [] = Some Lines
form_by (word ∷ []) = if bytes_eq word (codes "--json") then Some Events else None
form_by words = None
