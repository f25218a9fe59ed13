-- What the reading and the carrying out of a line come to.
use Rattle.std.specs.Prelude.{◌≡◌, ℕ, List, ◌++◌, Result, Ok, Err}
use Rattle.line_session.specs.declared.line_kind.LineKind.{LineKind}
use Rattle.script_desk.specs.Doing.{Does, Fails, kind_in, next_in, text_in}
use Rattle.suite_script.specs.declared.fault.LineError.{LineError}
use Rattle.suite_script.specs.declared.fault.LineError.TheVariants.{Faulty, Memory}
use Rattle.suite_script.specs.declared.fault.LineFault.{LineFault}

-- a line of the header became the service; or nothing changed
abbrev pub Becomes : {Service : Type 0} → Result (Unit {0}) LineError → Service → Service → Result Service LineFault → Type 0
Becomes (Ok done) before after left = left ≡ Ok after
Becomes (Err (Faulty fault)) before after left = (left ≡ Err fault) × (after ≡ before)
Becomes (Err Memory) before after left = after ≡ before

-- what is told was added to a text; or nothing was
abbrev pub Tells : Result (Unit {0}) LineError → List ℕ → List ℕ → Result (List ℕ) LineFault → Type 0
Tells (Ok done) before after told = (text : List ℕ) × (told ≡ Ok text) × (after ≡ before ++ text)
Tells (Err (Faulty fault)) before after told = (told ≡ Err fault) × (after ≡ before)
Tells (Err Memory) before after told = Unit {0}

-- a line was carried out as it is said; or it is faulty, and nothing changed; or memory ran out
abbrev pub CarriesOut : {State : Type 0} → (State → Type 0) → Result LineKind LineError → State → State → List ℕ → List ℕ → Does State → Type 0
CarriesOut Leaves (Ok kind) before after text now does = (kind ≡ kind_in does) × (after ≡ next_in before does) × ((number : ℕ) → now ≡ text ++ text_in number does)
CarriesOut Leaves (Err (Faulty fault)) before after text now does = (does ≡ Fails fault) × (after ≡ before) × (now ≡ text)
CarriesOut Leaves (Err Memory) before after text now does = Leaves after

-- a line is of this kind
abbrev pub Judges : {State : Type 0} → Result LineKind LineError → Does State → Type 0
Judges (Ok kind) does = kind ≡ kind_in does
Judges (Err (Faulty fault)) does = does ≡ Fails fault
Judges (Err Memory) does = Unit {0}
