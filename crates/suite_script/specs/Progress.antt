-- What reading a script line by line comes to.
use Rattle.std.specs.Prelude.{◌≡◌, ℕ, true, List, [], ◌∷◌, ◌++◌, Option, Some, None, Result, Ok, Err}
use Rattle.acl_text.specs.Tables.{Tables, name_fault}
use Rattle.suite_script.specs.declared.fault.LineFault.{LineFault}
use Rattle.suite_script.specs.declared.fault.LineError.{LineError}
use Rattle.suite_script.specs.declared.fault.LineError.TheVariants.{Faulty, Memory}
use Rattle.suite_script.specs.declared.fault.ScriptFault.{ScriptFault}
use Rattle.suite_script.specs.declared.fault.ScriptError.{ScriptError}
use Rattle.suite_script.specs.declared.fault.ScriptError.TheVariants as script
use Rattle.suite_script.specs.Scripts.{Headed, Pending, Said, Named, Own, said_at, with_own}

-- a line said a name, which is now known, or something of the command's own
abbrev pub SaysLine : {A : Type 0} → Result (Option A) ScriptError → ℕ → Pending → Pending → Result (Said A) LineFault → Type 0
SaysLine (Ok None) number before after said = (said ≡ Ok (Named after.names)) × (after ≡ record before { names = after.names })
SaysLine (Ok (Some own)) number before after said = (said ≡ Ok (Own own)) × (after ≡ record before { begun = true })
SaysLine (Err (script.Faulty fault)) number before after said = said_at number said ≡ Err fault
SaysLine (Err script.Memory) number before after said = Unit {0}

-- a line said something of the command's own
abbrev pub SaysOwn : {A : Type 0} → Result A ScriptError → ℕ → Result (Said A) LineFault → Type 0
SaysOwn (Ok own) number said = said ≡ Ok (Own own)
SaysOwn (Err (script.Faulty fault)) number said = said_at number said ≡ Err fault
SaysOwn (Err script.Memory) number said = Unit {0}

-- a line named a user or a group, which is now known
abbrev pub GivesNames : Result (Unit {0}) LineError → Tables → Result Tables LineFault → Type 0
GivesNames (Ok done) after named = named ≡ Ok after
GivesNames (Err (Faulty fault)) after named = named ≡ Err fault
GivesNames (Err Memory) after named = Unit {0}

-- a reader gave the next that is the command's own, or told that there is none
abbrev pub GivesOwn : {A : Type 0} → Result (Option A) ScriptError → Result (List A) ScriptFault → Result (List A) ScriptFault → Type 0
GivesOwn (Ok None) before after = before ≡ Ok []
GivesOwn (Ok (Some own)) before after = before ≡ with_own own after
GivesOwn (Err (script.Faulty fault)) before after = before ≡ Err fault
GivesOwn (Err script.Memory) before after = Unit {0}

-- a line of a header, or a header, was read
abbrev pub Heads : {A : Type 0} → Result A ScriptError → Pending → Result (Headed A) ScriptFault → Type 0
Heads (Ok value) after given = given ≡ Ok (record { value = value; rest = after })
Heads (Err (script.Faulty fault)) after given = given ≡ Err fault
Heads (Err script.Memory) after given = Unit {0}

-- a name came into a table, and the other table stayed
abbrev pub GivesUsers : Result (Unit {0}) LineError → Tables → Tables → Result (List (List ℕ × ℕ)) LineFault → Type 0
GivesUsers (Ok done) before after named = (named ≡ Ok after.users) × (after ≡ record before { users = after.users })
GivesUsers (Err (Faulty fault)) before after named = named ≡ Err fault
GivesUsers (Err Memory) before after named = Unit {0}

abbrev pub GivesGroups : Result (Unit {0}) LineError → Tables → Tables → Result (List (List ℕ × ℕ)) LineFault → Type 0
GivesGroups (Ok done) before after named = (named ≡ Ok after.groups) × (after ≡ record before { groups = after.groups })
GivesGroups (Err (Faulty fault)) before after named = named ≡ Err fault
GivesGroups (Err Memory) before after named = Unit {0}

-- a name that a table takes, with its number
abbrev pub IsEntry : List (List ℕ × ℕ) → List ℕ → ℕ → Result (List (List ℕ × ℕ)) LineFault → Type 0
IsEntry table name id named = (named ≡ Ok (table ++ (name, id) ∷ [])) × (name_fault table name ≡ None)

-- the first fault of a reading, if there is one
abbrev pub fault_of : {A : Type 0} → Result A ScriptFault → Option ScriptFault
fault_of (Ok given) = None
fault_of (Err fault) = Some fault

-- a script was looked through for its first fault
abbrev pub Checks : Result (Unit {0}) ScriptError → Option ScriptFault → Type 0
Checks (Ok nothing) fault = fault ≡ None
Checks (Err (script.Faulty given)) fault = fault ≡ Some given
Checks (Err script.Memory) fault = Unit {0}
