-- What the parts of a script's reading come to.
use Rattle.std.specs.Prelude.{◌≡◌, if◌then◌else◌, nat_lt, Vec, ℕ, List, [], ◌∷◌, Option, Some, None, Result, Ok, Err}
use Rattle.std.specs.declared.alloc.Global.{Global}
use Rattle.file_ops.specs.Steps.{ok_map}
use Rattle.txn_core.specs.declared.job.Job as jobs
use Rattle.suite_script.specs.declared.fault.ScriptError.{ScriptError}
use Rattle.suite_script.specs.declared.fault.ScriptError.TheVariants as script
use Rattle.suite_script.specs.declared.fault.ScriptFault.{ScriptFault}
use Rattle.suite_serve.specs.Scripts.{above_together, at_line, jobs_of}
use Rattle.suite_serve.specs.declared.command.Command.{Command}

-- the next of the lines that say `together` was found, or there is none
abbrev pub FindsTogether : Option ℕ → List ℕ → List ℕ → Type 0
FindsTogether (Some line) before after = before ≡ line ∷ after
FindsTogether None before after = before ≡ []

-- the jobs of some lines, with how many of them stand above `together`
abbrev pub jobs_and_alone : List Command → List jobs.Job × ℕ
jobs_and_alone lines = (jobs_of lines, above_together lines)

-- they were read; or this is the first fault
abbrev pub GivesJobs : Result (Vec jobs.Job Global × ℕ) ScriptError → Result (List Command) ScriptFault → Type 0
GivesJobs (Ok read) given = ok_map jobs_and_alone given ≡ Ok (read.0.items, read.1)
GivesJobs (Err (script.Faulty fault)) given = given ≡ Err fault
GivesJobs (Err script.Memory) given = Unit {0}

-- of a script's first fault and of a line that says `together` once more the one that stands first
abbrev pub first_error : Option ℕ → ScriptError → ScriptError
first_error (Some line) (script.Faulty fault) = script.Faulty (if nat_lt line fault.line then at_line line else fault)
first_error second error = error
