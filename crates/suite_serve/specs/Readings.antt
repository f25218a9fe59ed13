-- What the reading of a script comes to: what it says, or its first fault; memory may always run out.
use Rattle.std.specs.Prelude.{◌≡◌, Result, Ok, Err}
use Rattle.suite_script.specs.declared.fault.ScriptError.{ScriptError}
use Rattle.suite_script.specs.declared.fault.ScriptError.TheVariants as script
use Rattle.suite_script.specs.declared.fault.ScriptFault.{ScriptFault}

abbrev pub GivesScript : {A : Type 0} → Result A ScriptError → Result A ScriptFault → Type 0
GivesScript (Ok plan) given = given ≡ Ok plan
GivesScript (Err (script.Faulty fault)) given = given ≡ Err fault
GivesScript (Err script.Memory) given = Unit {0}
