-- What a command writes, as a function of what it reads.
use Rattle.std.specs.Prelude.{◌≡◌, ℕ, Bool, true, false, List, [], ◌++◌, Result, Ok, Err}
use Rattle.suite_script.specs.declared.fault.ScriptError.{ScriptError}
use Rattle.suite_script.specs.declared.fault.ScriptError.TheVariants as script
use Rattle.suite_script.specs.declared.fault.ScriptFault.{ScriptFault}
use Rattle.suite_script.specs.Faults.{fault_line}

-- all that a command writes, and whether it tells a fault
pub data Output : Type 0 where
  Done : List ℕ → Output
  Faulty : List ℕ → Output

-- for a script: what it prints where it has no fault, and else the line of its first fault
abbrev pub script_output : {Script : Type 0} → (Script → List ℕ) → Result Script ScriptFault → Output
script_output printed (Ok script) = Done (printed script)
script_output printed (Err fault) = Faulty (fault_line fault)

-- what of it may be written where memory runs out before its end: the front of what is printed, and nothing of a fault's line
abbrev pub IsBegun : Output → List ℕ → Type 0
IsBegun (Done text) front = (rest : List ℕ) × (front ++ rest ≡ text)
IsBegun (Faulty line) front = front ≡ []

abbrev pub is_done : Output → Bool
is_done (Done text) = true
is_done (Faulty line) = false

abbrev pub text_of : Output → List ℕ
text_of (Done text) = text
text_of (Faulty line) = line

-- a script was not read to its end: this is its first fault, or memory ran out
abbrev pub StopsWith : ScriptError → Output → Type 0
StopsWith (script.Faulty fault) output = output ≡ Faulty (fault_line fault)
StopsWith script.Memory output = Unit {0}

-- a script was looked through: it has no fault, or this is its first
abbrev pub Finds : Result (Unit {0}) ScriptError → Output → Type 0
Finds (Ok nothing) output = is_done output ≡ true
Finds (Err error) output = StopsWith error output
