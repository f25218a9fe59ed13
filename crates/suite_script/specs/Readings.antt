-- What a reading by the program comes to: what the words say, or their fault; memory may always run out.
use Rattle.std.specs.Prelude.{◌≡◌, ℕ, List, Result, Ok, Err}
use Rattle.acl_text.specs.declared.read.TextFault.{TextFault}
use Rattle.acl_text.specs.declared.read.TextFault.TheVariants as text
use Rattle.acl_text.specs.declared.names.NameError.{NameError}
use Rattle.acl_text.specs.declared.names.NameError.TheVariants as name
use Rattle.suite_script.specs.declared.fault.LineFault.{LineFault}
use Rattle.suite_script.specs.declared.fault.LineFault.TheVariants.{BadName, NameTwice, List as no_list}
use Rattle.suite_script.specs.declared.fault.LineError.{LineError}
use Rattle.suite_script.specs.declared.fault.ScriptError.{ScriptError}
use Rattle.suite_script.specs.declared.fault.ScriptError.TheVariants as script
use Rattle.suite_script.specs.declared.play_error.PlayError.{PlayError}
use Rattle.suite_script.specs.declared.play_error.PlayError.TheVariants as play
use Rattle.suite_script.specs.Words.{Word, Taken}
use Rattle.suite_script.specs.declared.fault.LineError.TheVariants.{Faulty, Memory}

abbrev pub Gives : {A : Type 0} → Result A LineError → Result A LineFault → Type 0
Gives (Ok value) reading = reading ≡ Ok value
Gives (Err (Faulty fault)) reading = reading ≡ Err fault
Gives (Err Memory) reading = Unit {0}

-- a fault of a list's text as one of its line
abbrev pub line_error_of : TextFault → LineError
line_error_of text.Memory = Memory
line_error_of fault = Faulty (no_list fault)

-- a name that was not taken into a table
abbrev pub name_error_of : NameError → LineError
name_error_of name.BadName = Faulty BadName
name_error_of name.NameTwice = Faulty NameTwice
name_error_of name.Memory = Memory

-- the same of a reading that leaves words
abbrev pub Reads : {A : Type 0} → Result A LineError → List Word → Result (Taken A) LineFault → Type 0
Reads (Ok value) rest reading = reading ≡ Ok (record { value = value; rest = rest })
Reads (Err (Faulty fault)) rest reading = reading ≡ Err fault
Reads (Err Memory) rest reading = Unit {0}

-- the error of a script, as one of its playing
abbrev pub play_error_of : ScriptError → PlayError
play_error_of (script.Faulty fault) = play.Faulty fault
play_error_of script.Memory = play.Memory

-- the error of a line, by the line's number
abbrev pub script_error_at : ℕ → LineError → ScriptError
script_error_at line (Faulty fault) = script.Faulty (record { line = line; fault = fault })
script_error_at line Memory = script.Memory
