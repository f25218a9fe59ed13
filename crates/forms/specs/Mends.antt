-- What mends a line: a change at one of its words, with which all its words fit.
use Rattle.std.specs.Prelude.{◌≡◌, ℕ, ◌-◌, ◌==◌, Bool, true, false, if◌then◌else◌, List, [], ◌∷◌, ◌++◌, codes, decimal, Contains, Option, Some, None}
use Rattle.std.specs.List.{AllByRecursion, find, flat_map, list_any}
use Rattle.std.specs.Str.{bytes_eq}
use Rattle.script_text.specs.Words.{words}
use Rattle.suite_script.specs.Misfits.{line_misfit}
use Rattle.suite_script.specs.Operations.{spelling, verbs}
use Rattle.suite_script.specs.Words.{Word}
use Rattle.suite_script.specs.declared.form.FormEnding.TheVariants.{Operations}
use Rattle.suite_script.specs.declared.form.LineForm.{LineForm}
use Rattle.suite_script.specs.declared.form.Forms.{Forms}
use Rattle.suite_script.specs.declared.misfit.Expected.TheVariants.{End}
use Rattle.suite_script.specs.declared.misfit.Misfit.{Misfit}
use Rattle.suite_script.specs.declared.scope.Scope.{Scope}
use Rattle.forms.specs.Finding.{tab}

-- the forms of all lines of a command's scripts
abbrev pub all_of : Forms → List LineForm
all_of forms = forms.header.now ++ forms.optional.now ++ forms.names.now ++ forms.own.now

-- the form of a line that begins with a word
abbrev pub form_in : Forms → Word → Option LineForm
form_in forms word = find (λ form. bytes_eq word form.word.now) (all_of forms)

-- one of these forms begins with this word, and the words behind it fit in that form
pub record FitsIn (scope : Scope) (forms : List LineForm) (first : Word) (rest : List Word) : Type 0 where
  pub form : LineForm
  pub is_one : Contains forms form
  pub begins : form.word.now ≡ first
  pub fits : line_misfit scope form.places.now form.ending rest ≡ None

-- the words of a line are those of one of these forms
abbrev pub FitsOne : Scope → List LineForm → List Word → Type 0
FitsOne scope forms [] = ⊥
FitsOne scope forms (first ∷ rest) = FitsIn scope forms first rest

-- a change at a word of a line: the word is left out, another one stands there, or another one before it
pub data Edit : Type 0 where
  Without : Edit
  Instead : Word → Edit
  Before : Word → Edit

-- what a word becomes
abbrev pub put : Edit → Word → List Word
put Without word = []
put (Instead other) word = other ∷ []
put (Before other) word = other ∷ word ∷ []

-- the same of the word of this number, from 1, and of no other
abbrev pub put_at : Edit → ℕ → Word → List Word
put_at change at word = if at == 1 then put change word else word ∷ []

-- a word with a space behind it
abbrev pub spaced : Word → List ℕ
spaced word = word ++ codes " "

-- the text of a line with a change at the word of this number, each word with a space behind it
abbrev pub changed : Edit → ℕ → List Word → List ℕ
changed change at [] = []
changed change at (word ∷ rest) = flat_map spaced (put_at change at word) ++ changed change (at - 1) rest

-- with this change a line has a form of these
abbrev pub Mends : Scope → Forms → List ℕ → ℕ → Edit → Type 0
Mends scope forms line at change = FitsOne scope (all_of forms) (words (changed change at (words line)))

-- another word, in the place of one or before it
abbrev pub placed : Bool → Word → Edit
placed false other = Instead other
placed true other = Before other

-- a text that is one word: it has no blank
abbrev pub IsWord : Word → Type 0
IsWord text = words text ≡ text ∷ []

-- words with a space behind each, and each of them has P
pub record AreTold (P : Word → Type 0) (text : List ℕ) : Type 0 where
  pub told : List Word
  pub are_words : AllByRecursion IsWord told
  pub all : AllByRecursion P told
  pub is : text ≡ flat_map spaced told

-- the number of a word without which a line has a form of these
pub record IsTooMany (scope : Scope) (forms : Forms) (line : List ℕ) (number : Word) : Type 0 where
  pub at : ℕ
  pub is : number ≡ decimal at
  pub mends : Mends scope forms line at Without

-- with some word before the one of some number a line has a form of these
pub record IsMissing (scope : Scope) (forms : Forms) (line : List ℕ) : Type 0 where
  pub at : ℕ
  pub word : Word
  pub mends : Mends scope forms line at (Before word)

-- the text of this number, from 1; nothing, where there is none
abbrev pub numbered : ℕ → List (List ℕ) → List ℕ
numbered number [] = []
numbered number (text ∷ more) = if number == 1 then text else numbered (number - 1) more

-- whether a word begins an operation
abbrev pub is_verb : Word → Bool
is_verb word = list_any (λ verb. bytes_eq word (spelling verb)) verbs

-- an operation of a line has a word too many, behind a word that begins none: its path may have a space
pub record IsCut (scope : Scope) (forms : Forms) (line : List ℕ) : Type 0 where
  pub form : LineForm
  pub rest : List Word
  pub misfit : Misfit
  pub is_one : Contains (all_of forms) form
  pub is_line : words line ≡ form.word.now ∷ rest
  pub has_operations : form.ending ≡ Operations
  pub misfits : line_misfit scope form.places.now form.ending rest ≡ Some misfit
  pub ends : misfit.expected ≡ End
  pub before : is_verb (numbered (misfit.number - 1) (words line)) ≡ false

-- what is told of a word too many or too few
pub data IsShift (scope : Scope) (forms : Forms) (line : List ℕ) : List ℕ → Type 0 where
  Path : IsCut scope forms line → IsShift scope forms line (codes "path")
  Missing : IsMissing scope forms line → IsShift scope forms line (codes "missing")
  Many : (text : List ℕ) → AreTold (IsTooMany scope forms line) text → IsShift scope forms line text

-- a hyphen, where there is nothing
abbrev pub or_hyphen : List ℕ → List ℕ
or_hyphen [] = codes "-"
or_hyphen (byte ∷ bytes) = byte ∷ bytes

-- a field with a tab behind it
abbrev pub field : List ℕ → List ℕ
field text = or_hyphen text ++ tab

-- the first three fields of what would mend a line at the word of this number
pub record AreMends (scope : Scope) (forms : Forms) (line : List ℕ) (at : ℕ) (text : List ℕ) : Type 0 where
  pub instead : List ℕ
  pub before : List ℕ
  pub shift : List ℕ
  pub each_instead : AreTold (λ word. Mends scope forms line at (Instead word)) instead
  pub each_before : AreTold (λ word. Mends scope forms line at (Before word)) before
  pub is_shift : IsShift scope forms line shift
  pub is : text ≡ field instead ++ field before ++ field shift
