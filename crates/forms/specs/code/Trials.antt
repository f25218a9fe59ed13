-- What a trial of a line comes to, by the fields of the code.
use Rattle.std.specs.Prelude.{◌≡◌, ℕ, ◌⊎◌, Bool, true, is_some, List, ◌++◌, Contains, Option, None, Result, Ok, Err}
use Rattle.suite_script.specs.Words.{Word}
use Rattle.suite_script.specs.declared.fault.LineFault.{LineFault}
use Rattle.suite_script.specs.declared.fault.LineFault.TheVariants as line
use Rattle.suite_script.specs.declared.form.Forms.{Forms}
use Rattle.suite_script.specs.declared.form.LineForm.{LineForm}
use Rattle.forms.specs.Answers.{IsFaultOf, IsFound}
use Rattle.forms.specs.Mends.{AreMends, AreTold, Edit, Without, IsCut, IsMissing, IsShift, IsTooMany, Mends, all_of, form_in, placed}
use Rattle.forms.specs.declared.mend.Change.{Change}
use Rattle.forms.specs.declared.mend.Change.TheVariants as code
use Rattle.forms.specs.declared.mend.Trial.{Trial}

-- a change by the words that it names
abbrev pub change_of : Change → Edit
change_of code.Without = Without
change_of (code.Placed is_before other) = placed is_before other.now

-- a line that stands in its place, or out of it, begins with the word of one of the forms; another one does not
abbrev pub StandsIn : Forms → Word → Result LineForm LineFault → Type 0
StandsIn forms word (Ok form) = Contains (all_of forms) form × (form.word.now ≡ word)
StandsIn forms word (Err fault) =
    ((fault ≡ line.Order) × (is_some (form_in forms word) ≡ true)) ⊎ ((fault ≡ line.Form) × (form_in forms word ≡ None))

-- what is found of the line, and of words
abbrev pub IsFoundIn : Trial → ℕ → Option LineFault → Type 0
IsFoundIn trial number fault = IsFound trial.reading.now.scope trial.reading.now.forms trial.line.now number fault

abbrev pub IsFaultIn : Trial → List Word → ℕ → Option LineFault → Type 0
IsFaultIn trial words number fault = IsFaultOf trial.reading.now.scope trial.reading.now.forms words number fault

abbrev pub MendsIn : Trial → ℕ → Edit → Type 0
MendsIn trial at change = Mends trial.reading.now.scope trial.reading.now.forms trial.line.now at change

abbrev pub IsMissingIn : Trial → Type 0
IsMissingIn trial = IsMissing trial.reading.now.scope trial.reading.now.forms trial.line.now

abbrev pub IsCutIn : Trial → Type 0
IsCutIn trial = IsCut trial.reading.now.scope trial.reading.now.forms trial.line.now

abbrev pub IsShiftIn : Trial → List ℕ → Type 0
IsShiftIn trial text = IsShift trial.reading.now.scope trial.reading.now.forms trial.line.now text

-- a text is added of words of which each has P
pub record Adds (P : Word → Type 0) (old new : List ℕ) : Type 0 where
  pub added : List ℕ
  pub told : AreTold P added
  pub is : new ≡ old ++ added

-- words are added, each of which mends the line in the place of the word of this number, or before it
abbrev pub AddsMends : Trial → ℕ → Bool → List ℕ → List ℕ → Type 0
AddsMends trial at is_before old new = Adds (λ word. MendsIn trial at (placed is_before word)) old new

-- numbers of words are added, without each of which the line has a form
abbrev pub AddsMany : Trial → List ℕ → List ℕ → Type 0
AddsMany trial old new = Adds (IsTooMany trial.reading.now.scope trial.reading.now.forms trial.line.now) old new

-- the first three fields of what would mend the line at the word of this number
pub record AddsFields (trial : Trial) (at : ℕ) (old new : List ℕ) : Type 0 where
  pub added : List ℕ
  pub mends : AreMends trial.reading.now.scope trial.reading.now.forms trial.line.now at added
  pub is : new ≡ old ++ added
