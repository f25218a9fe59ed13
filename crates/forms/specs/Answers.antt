-- What is told of the line, or of the item of a list, that was asked.
use Rattle.std.specs.Prelude.{◌≡◌, ℕ, ◌⊎◌, true, false, is_some, List, [], ◌∷◌, ◌++◌, codes, Contains, Option, Some, None}
use Rattle.std.specs.Str.{bytes_eq}
use Rattle.std.specs.Str.Lines.{lines}
use Rattle.acl_text.specs.Places.{item_place}
use Rattle.script_text.specs.Words.{words}
use Rattle.suite_prefix.specs.declared.settings.SettingsFault.TheVariants.{OldTooLarge}
use Rattle.suite_script.specs.Misfits.{line_misfit}
use Rattle.suite_script.specs.Scripts.{is_skipped}
use Rattle.suite_script.specs.Words.{Word}
use Rattle.suite_script.specs.declared.fault.LineFault.{LineFault}
use Rattle.suite_script.specs.declared.fault.LineFault.TheVariants as line
use Rattle.suite_script.specs.declared.form.LineForm.{LineForm}
use Rattle.suite_script.specs.declared.form.Forms.{Forms}
use Rattle.suite_script.specs.declared.misfit.Misfit.{Misfit}
use Rattle.suite_script.specs.declared.scope.Scope.{Scope}
use Rattle.forms.specs.Finding.{BeginsWith, head_at, place_text, tab}
use Rattle.forms.specs.Mends.{all_of, form_in, numbered}
use Rattle.forms.specs.declared.Question.{Question}
use Rattle.forms.specs.declared.Question.TheVariants as asked

-- what is found of words by the first that does not fit, if there is one: its number and a fault
abbrev pub IsAt : Option Misfit → ℕ → Option LineFault → Type 0
IsAt None number fault = fault ≡ None
IsAt (Some misfit) number fault = (number ≡ misfit.number) × (fault ≡ Some misfit.fault)

-- what is found of the words of a line: the first that its form does not allow; or a fault of the line as a whole, which is
-- blank, out of its place, or begins as none; which may stand but once; or whose servers cannot open so
pub data IsFaultOf (scope : Scope) (forms : Forms) (words : List Word) (number : ℕ) (fault : Option LineFault) : Type 0 where
  Stands : (form : LineForm) (rest : List Word) → words ≡ form.word.now ∷ rest → Contains (all_of forms) form
      → IsAt (line_misfit scope form.places.now form.ending rest) number fault → IsFaultOf scope forms words number fault
  Blank : words ≡ [] → number ≡ 1 → fault ≡ Some line.Form → IsFaultOf scope forms words number fault
  Misplaced : (first : Word) (rest : List Word) → words ≡ first ∷ rest → is_some (form_in forms first) ≡ true
      → number ≡ 1 → fault ≡ Some line.Order → IsFaultOf scope forms words number fault
  Unknown : (first : Word) (rest : List Word) → words ≡ first ∷ rest → form_in forms first ≡ None
      → number ≡ 1 → fault ≡ Some line.Form → IsFaultOf scope forms words number fault
  Again : (first : Word) (rest : List Word) → words ≡ first ∷ rest → bytes_eq first (codes "together") ≡ true
      → number ≡ 1 → fault ≡ Some line.Form → IsFaultOf scope forms words number fault
  TooLarge : (first : Word) (rest : List Word) → words ≡ first ∷ rest → bytes_eq first (codes "old") ≡ true
      → number ≡ 2 → fault ≡ Some (line.Settings OldTooLarge) → IsFaultOf scope forms words number fault

-- of one that says nothing, or is not there: nothing, or that a line of the header is due
abbrev pub IsDue : ℕ → Option LineFault → Type 0
IsDue number fault = (fault ≡ None) ⊎ ((number ≡ 1) × (fault ≡ Some line.Order))

abbrev pub IsFound : Scope → Forms → List ℕ → ℕ → Option LineFault → Type 0
IsFound scope forms line number fault =
    ((is_skipped line ≡ true) × IsDue number fault) ⊎ ((is_skipped line ≡ false) × IsFaultOf scope forms (words line) number fault)

-- a text tells of the line of this number, where a script has some number of servers and agents, and some names
pub record IsOfLine (forms : Forms) (script : List ℕ) (number : ℕ) (text : List ℕ) : Type 0 where
  pub scope : Scope
  pub at : ℕ
  pub fault : Option LineFault
  pub is_found : IsFound scope forms (numbered number (lines script)) at fault
  pub begins : BeginsWith (head_at at fault) text

-- the same of a command, behind its name
pub record IsOfCommand (command : List ℕ) (script : List ℕ) (number : ℕ) (text : List ℕ) : Type 0 where
  pub forms : Forms
  pub told : List ℕ
  pub is_told : IsOfLine forms script number told
  pub is : text ≡ command ++ tab ++ told

-- the same of each command
pub record IsOfEach (script : List ℕ) (number : ℕ) (text : List ℕ) : Type 0 where
  pub play : List ℕ
  pub serve : List ℕ
  pub table : List ℕ
  pub is_play : IsOfCommand (codes "play") script number play
  pub is_serve : IsOfCommand (codes "serve") script number serve
  pub is_table : IsOfCommand (codes "table") script number table
  pub is : text ≡ play ++ serve ++ table

-- a text tells of the item of this number, which begins at its place in the list; or of the whole list, where the number is 0
abbrev pub IsOfItem : List ℕ → ℕ → List ℕ → Type 0
IsOfItem list number text = (number ≡ 0) ⊎ BeginsWith (place_text (item_place list number) ++ tab) text

-- a text answers a question about what was read
abbrev pub IsAnswer : Question → List ℕ → List ℕ → Type 0
IsAnswer (asked.Line forms number) given text = IsOfLine forms given number text
IsAnswer (asked.Script number) given text = IsOfEach given number text
IsAnswer (asked.List are_named number) given text = IsOfItem given number text
