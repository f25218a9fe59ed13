-- What reasons say of the words, and of the parts of words, with which they are told.
use Rattle.std.specs.Prelude.{◌≡◌, ℕ, nat_lt, if◌then◌else◌, is_some, List, length, Option, Some, None}
use Rattle.std.specs.Char.{is_ascii_hexdigit}
use Rattle.std.specs.List.{list_all}
use Rattle.script_text.specs.Numbers.{is_number, number_up_to}
use Rattle.suite_script.specs.Forms.{place_fault}
use Rattle.suite_script.specs.declared.form.Place.{Place}
use Rattle.suite_script.specs.declared.scope.Scope.{Scope}
use Rattle.forms.specs.declared.reason.Reason.{Reason}
use Rattle.forms.specs.declared.reason.Reason.TheVariants.{Due, NoNumber, Below, Above, OddDigits, NoDigits}
use Rattle.forms.specs.declared.reason.Reasoned.{Reasoned}

-- a reason with the number that is told of it, if one is
abbrev pub Numbered : Type 0
Numbered = Reason × Option ℕ

-- a number from the least on has no fault
abbrev pub unless_below : ℕ → ℕ → Option Numbered
unless_below least given = if nat_lt given least then Some (Below, Some least) else None

-- a word that is no number up to the most: one of digits is above it
abbrev pub number_judged : ℕ → ℕ → List ℕ → Option ℕ → Option Numbered
number_judged least most word (Some given) = unless_below least given
number_judged least most word None = if is_number word then Some (Above, Some most) else Some (NoNumber, None)

-- why a word is no number from the least to the most, if it is none, and which of these it passes
abbrev pub number_reason : ℕ → ℕ → List ℕ → Option Numbered
number_reason least most word = number_judged least most word (number_up_to most word)

-- limits of a place: a word has a reason by them exactly where the reader has a fault of it
abbrev pub AreLimitsOf : Scope → Place → Option (ℕ × ℕ) → Type 0
AreLimitsOf scope place (Some limits) = (word : List ℕ) → is_some (number_reason limits.0 limits.1 word) ≡ is_some (place_fault scope place word)
AreLimitsOf scope place None = Unit {0}

-- this reason is told, and no number but this
abbrev pub Tells : Numbered → Reasoned → Type 0
Tells reason told = (told.reason ≡ reason.0) × (told.number ≡ reason.1)

-- the reason that a word is no number is told; of one that has none that it is due
abbrev pub TellsNumber : Option Numbered → Reasoned → Type 0
TellsNumber (Some reason) told = Tells reason told
TellsNumber None told = Tells (Due, None) told

-- why a word is no bytes: hexadecimal digits alone are then an odd number of them
abbrev pub bytes_reason : List ℕ → Numbered
bytes_reason word = if list_all is_ascii_hexdigit word then (OddDigits, Some (length word)) else (NoDigits, None)
