-- What the parts of a history's reading come to.
use Rattle.std.specs.Prelude.{◌≡◌, ℕ, true, false, List, ◌++◌, Result, Ok, Err}
use Rattle.file_ops.specs.declared.answer.Answer.{Answer}
use Rattle.file_ops.specs.Steps.{ok_map}
use Rattle.suite_content.specs.Folders.{with_name}
use Rattle.file_ops.specs.Paths.{is_name}
use Rattle.suite_script.specs.declared.fault.LineError.{LineError}
use Rattle.suite_script.specs.declared.fault.LineError.TheVariants as line
use Rattle.suite_script.specs.declared.fault.LineFault.{LineFault}
use Rattle.suite_script.specs.declared.fault.LineFault.TheVariants.{Form}
use Rattle.suite_script.specs.declared.fault.ScriptError.{ScriptError}
use Rattle.suite_script.specs.declared.fault.ScriptError.TheVariants as script
use Rattle.suite_script.specs.declared.fault.ScriptFault.{ScriptFault}
use Rattle.suite_history.specs.declared.history.Hearing.{Hearing}
use Rattle.suite_history.specs.declared.history.CallHistory as read
use Rattle.acl_core.specs.Identity.{Identity}
use Rattle.history_judge.specs.declared.history.CallRequest.{CallRequest}
use Rattle.suite_history.specs.Histories.{Heard, History}
use Rattle.suite_history.specs.Asking.{Request}

abbrev pub heard_in : Hearing → Heard
heard_in hearing = record { rooted = hearing.is_rooted; calls = hearing.calls.items; waiting = hearing.waiting }

-- a line was heard; or it is faulty
abbrev pub Hears : Result (Unit {0}) LineError → Hearing → Result Heard LineFault → Type 0
Hears (Ok done) after given = given ≡ Ok (heard_in after)
Hears (Err (line.Faulty fault)) after given = given ≡ Err fault
Hears (Err line.Memory) after given = Unit {0}

-- lines were heard; or this is the first faulty one
abbrev pub GivesHeard : Result Hearing ScriptError → Result Heard ScriptFault → Type 0
GivesHeard (Ok hearing) given = given ≡ Ok (heard_in hearing)
GivesHeard (Err (script.Faulty fault)) given = given ≡ Err fault
GivesHeard (Err script.Memory) given = Unit {0}

abbrev pub in_lists : read.CallHistory → History
in_lists history = record { root = history.root; calls = history.calls.items }

-- a history was read; or this is its first faulty line
abbrev pub GivesHistory : Result read.CallHistory ScriptError → Result History ScriptFault → Type 0
GivesHistory (Ok history) given = given ≡ Ok (in_lists history)
GivesHistory (Err (script.Faulty fault)) given = given ≡ Err fault
GivesHistory (Err script.Memory) given = Unit {0}

-- a word is a name; or it is none
abbrev pub IsNameOf : Result (List ℕ) LineFault → List ℕ → Type 0
IsNameOf (Ok name) text = (is_name text ≡ true) × (name ≡ text)
IsNameOf (Err fault) text = (is_name text ≡ false) × (fault ≡ Form)

-- a name was put at its place, if it is one
abbrev pub PutsName : Result (Unit {0}) LineError → List (List ℕ × ℕ) → List (List ℕ × ℕ) → List ℕ → Type 0
PutsName (Ok done) folder new text = (is_name text ≡ true) × (new ≡ with_name folder text 0)
PutsName (Err (line.Faulty fault)) folder new text = (is_name text ≡ false) × (fault ≡ Form)
PutsName (Err line.Memory) folder new text = Unit {0}

-- replies were added
abbrev pub AddsReplies : Result (Unit {0}) LineError → List Answer → List Answer → Result (List Answer) LineFault → Type 0
AddsReplies (Ok done) old new given = ok_map (λ later. old ++ later) given ≡ Ok new
AddsReplies (Err (line.Faulty fault)) old new given = given ≡ Err fault
AddsReplies (Err line.Memory) old new given = Unit {0}

-- who asks for what was read
abbrev pub GivesRequest : Result (Identity × CallRequest) LineError → Result Request LineFault → Type 0
GivesRequest (Ok request) given = given ≡ Ok (record { caller = request.0; asked = request.1 })
GivesRequest (Err (line.Faulty fault)) given = given ≡ Err fault
GivesRequest (Err line.Memory) given = Unit {0}
