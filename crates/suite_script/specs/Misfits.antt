-- The first word of a line that its form does not allow, with its number from 1, what was expected there, and the fault.
use Rattle.std.specs.Prelude.{◌≡◌, ℕ, ◌+◌, min, List, [], ◌∷◌, Option, Some, None, option_map}
use Rattle.std.specs.List.{slice_split}
use Rattle.script_text.specs.Phrases.{is_semicolon}
use Rattle.suite_script.specs.declared.fault.LineFault.{LineFault}
use Rattle.suite_script.specs.declared.fault.LineFault.TheVariants as line
use Rattle.suite_script.specs.declared.form.FormEnding.{FormEnding}
use Rattle.suite_script.specs.declared.form.FormEnding.TheVariants.{Whole, Perhaps, Operations}
use Rattle.suite_script.specs.declared.form.Place.{Place}
use Rattle.suite_script.specs.declared.misfit.Expected.{Expected}
use Rattle.suite_script.specs.declared.misfit.Expected.TheVariants as expected
use Rattle.suite_script.specs.declared.misfit.Misfit.{Misfit}
use Rattle.suite_script.specs.declared.scope.Scope.{Scope}
use Rattle.suite_script.specs.declared.verb.Verb.{Verb}
use Rattle.suite_script.specs.Forms.{ending_of, fault_in, max_number, place_fault, places_of}
use Rattle.suite_script.specs.Operations.{operations, verb_in}
use Rattle.suite_script.specs.Words.{Word}

-- what words come to: the first that does not fit, or the number of the next word and the words that are left
pub data Judged : Type 0 where
  Wrong : Misfit → Judged
  Left : ℕ → List Word → Judged

-- what is said of words that are left, where none was wrong
abbrev pub if_fits : Judged → (ℕ → List Word → Judged) → Judged
if_fits (Wrong misfit) later = Wrong misfit
if_fits (Left number words) later = later number words

abbrev pub misfit_at : ℕ → Expected → LineFault → Misfit
misfit_at number expected fault = record { number = number; expected = expected; fault = fault }

-- the number of the next word; no word has one beyond the largest
abbrev pub after : ℕ → ℕ
after number = min (number + 1) max_number

-- a word in its place, and what comes after it
abbrev pub judged_word : ℕ → Place → Option LineFault → Judged → Judged
judged_word number place None later = later
judged_word number place (Some fault) later = Wrong (misfit_at number (expected.Place place) fault)

-- words in some places
abbrev pub judge : Scope → ℕ → List Place → List Word → Judged
judge scope number [] words = Left number words
judge scope number (place ∷ places) [] = Wrong (misfit_at number (expected.Place place) line.Form)
judge scope number (place ∷ places) (word ∷ words) = judged_word number place (place_fault scope place word) (judge scope (after number) places words)

-- words after all places of a form, where nothing may be left
abbrev pub ended : ℕ → List Word → Judged
ended number [] = Left number []
ended number (word ∷ words) = Wrong (misfit_at number expected.End line.Form)

-- words after all places of a form; operations are left
abbrev pub closed : Scope → FormEnding → ℕ → List Word → Judged
closed scope Whole number words = ended number words
closed scope (Perhaps place) number [] = Left number []
closed scope (Perhaps place) number (word ∷ words) = judged_word number place (place_fault scope place word) (ended (after number) words)
closed scope Operations number words = Left number words

-- words after the first of a form
abbrev pub shaped : Scope → List Place → FormEnding → ℕ → List Word → Judged
shaped scope places ending number words = if_fits (judge scope number places words) (closed scope ending)

abbrev pub shaped_by : Scope → Option Verb → ℕ → List Word → Judged
shaped_by scope None number words = Wrong (misfit_at number expected.Operation line.Form)
shaped_by scope (Some verb) number words = shaped scope (places_of verb) (ending_of verb) (after number) words

-- an operation, which is all of its phrase
abbrev pub operation_judged : Scope → ℕ → List Word → Judged
operation_judged scope number [] = Wrong (misfit_at number expected.Operation line.Form)
operation_judged scope number (verb ∷ words) = shaped_by scope (verb_in verb) number words

-- operations, with a semicolon between each two
abbrev pub misfit_or : Judged → (ℕ → Option Misfit) → Option Misfit
misfit_or (Wrong misfit) later = Some misfit
misfit_or (Left number words) later = later number

abbrev pub operations_misfit : Scope → ℕ → List (List Word) → Option Misfit
operations_misfit scope number [] = None
operations_misfit scope number (phrase ∷ phrases) =
    misfit_or (operation_judged scope number phrase) (λ next. operations_misfit scope (after next) phrases)

-- phrases where nothing may be left: their semicolon does not fit
abbrev pub phrases_ended : ℕ → List (List Word) → Option Misfit
phrases_ended number [] = None
phrases_ended number (phrase ∷ phrases) = Some (misfit_at number expected.End line.Form)

-- what is left of a line after the places of its form
abbrev pub rest_misfit : Scope → FormEnding → ℕ → List Word → List (List Word) → Option Misfit
rest_misfit scope Operations number words phrases = operations_misfit scope number (words ∷ phrases)
rest_misfit scope _ number words phrases = phrases_ended number phrases

abbrev pub judged_rest : Scope → FormEnding → List (List Word) → Judged → Option Misfit
judged_rest scope ending phrases (Wrong misfit) = Some misfit
judged_rest scope ending phrases (Left number words) = rest_misfit scope ending number words phrases

abbrev pub phrases_misfit : Scope → List Place → FormEnding → List (List Word) → Option Misfit
phrases_misfit scope places ending [] = None
phrases_misfit scope places ending (phrase ∷ phrases) = judged_rest scope ending phrases (shaped scope places ending 2 phrase)

-- the first word of a line that its form does not allow; these are the words after its first
abbrev pub line_misfit : Scope → List Place → FormEnding → List Word → Option Misfit
line_misfit scope places ending words = phrases_misfit scope places ending (slice_split is_semicolon words)

-- what the program has found, and what is then left
abbrev pub found : Option Misfit → ℕ → List Word → Judged
found (Some misfit) number words = Wrong misfit
found None number words = Left number words

-- nothing is left, unless operations are
abbrev pub IsClosed : FormEnding → List Word → Type 0
IsClosed Operations words = Unit {0}
IsClosed _ words = words ≡ []

-- the fault of words that were judged
abbrev pub judged_fault : Judged → Option LineFault
judged_fault (Wrong misfit) = Some misfit.fault
judged_fault (Left number words) = None

-- the first word of operations that does not fit has the fault that they have as they are read, and there is none where they have none
abbrev pub OperationsAgree : Type 0
OperationsAgree =
    (scope : Scope) (number : ℕ) (words : List Word)
    → option_map (λ misfit. misfit.fault) (operations_misfit scope number (slice_split is_semicolon words)) ≡ fault_in (operations scope.names words)
