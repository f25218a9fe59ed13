-- What is told of the line that was asked.
use Rattle.std.proofs.Common.{◌≡◌, ℕ, ◌⊎◌, true, false, is_some, List, ◌∷◌, ◌++◌, Option, Some, None, Result, Ok, Err, Vec, IfOk, Contains, refl, ◌∙◌, ap, sym, subst, inl, inr, true≢false, bytes_eq, codes}
use Rattle.std.specs.Str.Lines.{lines}
use Rattle.std.specs.declared.alloc.Global.{Global}
use Rattle.acl_text.specs.Places.{item_place}
use Rattle.byte_streams.specs.Endings.{Finishes, done}
use Rattle.script_text.specs.Words.{words}
use Rattle.suite_prefix.specs.declared.settings.SettingsFault.TheVariants.{OldTooLarge}
use Rattle.suite_script.specs.Misfits.{line_misfit}
use Rattle.suite_script.specs.Scripts.{is_skipped}
use Rattle.suite_script.specs.Words.{Word}
use Rattle.suite_script.specs.declared.fault.LineFault.{LineFault}
use Rattle.suite_script.specs.declared.fault.LineFault.TheVariants as code
use Rattle.suite_script.specs.declared.form.LineForm.{LineForm}
use Rattle.suite_script.specs.declared.form.Forms.{Forms}
use Rattle.suite_script.specs.declared.misfit.Misfit.{Misfit}
use Rattle.suite_script.specs.declared.scope.Scope.{Scope}
use Rattle.forms.specs.Answers.{Again, Blank, IsAnswer, IsAt, IsFaultOf, IsFound, IsOfCommand, IsOfEach, IsOfItem, IsOfLine, Misplaced, Stands, TooLarge, Unknown}
use Rattle.forms.specs.Finding.{BeginsWith, head_at, place_text, tab}
use Rattle.forms.specs.Mends.{FitsOne, all_of, form_in, numbered}
use Rattle.forms.specs.Runs.{Ends}
use Rattle.forms.specs.declared.Question.{Question}
use Rattle.forms.specs.declared.finding.Found.{Found}

-- ---- how a text begins

pub begins_all : (head front more text : List ℕ) → front ≡ head → text ≡ front ++ more → BeginsWith head text
begins_all head front more text begins is = record { rest = more; is = is ∙ ap (λ (one : List ℕ). one ++ more) begins }

-- ---- what is found of a line

pub found_nowhere : (scope : Scope) (forms : Forms) (line : List ℕ) (first : Word) (rest : List Word) (number : ℕ) (told : LineFault) (fault : Option LineFault)
    → is_skipped line ≡ false → words line ≡ first ∷ rest
    → ((told ≡ code.Order) × (is_some (form_in forms first) ≡ true)) ⊎ ((told ≡ code.Form) × (form_in forms first ≡ None))
    → number ≡ 1 → fault ≡ Some told → IsFound scope forms line number fault
found_nowhere scope forms line first rest number told fault says is (inl misplaced) one some =
    inr (says, Misplaced first rest is misplaced.1 one (some ∙ ap Some misplaced.0))
found_nowhere scope forms line first rest number told fault says is (inr unknown) one some =
    inr (says, Unknown first rest is unknown.1 one (some ∙ ap Some unknown.0))

pub found_standing : {E : Type 0} (scope : Scope) (forms : Forms) (line : List ℕ) (word first : Word) (rest : List Word) (result : Result Found E) → is_skipped line ≡ false
    → words line ≡ first ∷ rest → word ≡ first → IfOk result (λ found. IsFaultOf scope forms (word ∷ rest) found.number found.fault)
    → IfOk result (λ found. IsFound scope forms line found.number found.fault)
found_standing scope forms line word first rest (Ok found) says is same tells =
    inr (says, subst (λ (one : List Word). IsFaultOf scope forms one found.number found.fault) (ap (λ (one : Word). one ∷ rest) same ∙ sym is) tells)
found_standing scope forms line word first rest (Err error) says is same tells = tt

-- the same of a line whose first word stands in its place
pub found_again : (scope : Scope) (forms : Forms) (word : Word) (rest : List Word) (number : ℕ) (fault : Option LineFault) → bytes_eq word (codes "together") ≡ true
    → number ≡ 1 → fault ≡ Some code.Form → IsFaultOf scope forms (word ∷ rest) number fault
found_again scope forms word rest number fault again one form = Again word rest refl again one form

pub found_large : (scope : Scope) (forms : Forms) (word : Word) (rest : List Word) (number : ℕ) (fault : Option LineFault) → bytes_eq word (codes "old") ≡ true
    → number ≡ 2 → fault ≡ Some (code.Settings OldTooLarge) → IsFaultOf scope forms (word ∷ rest) number fault
found_large scope forms word rest number fault old two large = TooLarge word rest refl old two large

pub found_form : (scope : Scope) (forms : Forms) (form : LineForm) (rest : List Word) (number : ℕ) (fault : Option LineFault) → Contains (all_of forms) form
    → IsAt (line_misfit scope form.places.now form.ending rest) number fault → IsFaultOf scope forms (form.word.now ∷ rest) number fault
found_form scope forms form rest number fault there at = Stands form rest refl there at

-- ---- a line that has no fault

not_some : {P : Type 0} (told : LineFault) (fault : Option LineFault) → fault ≡ Some told → is_some fault ≡ false → P
not_some told fault is none = absurd (true≢false (ap is_some (sym is) ∙ none))

no_misfit : (misfit : Option Misfit) (number : ℕ) (fault : Option LineFault) → IsAt misfit number fault → is_some fault ≡ false → misfit ≡ None
no_misfit None number fault at none = refl
no_misfit (Some misfit) number fault at none = not_some misfit.fault fault at.1 none

words_fit : (scope : Scope) (forms : Forms) (words : List Word) (number : ℕ) (fault : Option LineFault) → IsFaultOf scope forms words number fault → is_some fault ≡ false
    → FitsOne scope (all_of forms) words
words_fit scope forms words number fault (Stands form rest is there at) none =
    subst (FitsOne scope (all_of forms)) (sym is)
    (record { form = form; is_one = there; begins = refl; fits = no_misfit (line_misfit scope form.places.now form.ending rest) number fault at none })
words_fit scope forms words number fault (Blank is one some) none = not_some code.Form fault some none
words_fit scope forms words number fault (Misplaced first rest is known one some) none = not_some code.Order fault some none
words_fit scope forms words number fault (Unknown first rest is unknown one some) none = not_some code.Form fault some none
words_fit scope forms words number fault (Again first rest is again one some) none = not_some code.Form fault some none
words_fit scope forms words number fault (TooLarge first rest is old two some) none = not_some (code.Settings OldTooLarge) fault some none

pub fits_one : (scope : Scope) (forms : Forms) (line : List ℕ) (number : ℕ) (fault : Option LineFault) → IsFound scope forms line number fault → is_skipped line ≡ false
    → is_some fault ≡ false → FitsOne scope (all_of forms) (words line)
fits_one scope forms line number fault (inl due) says none = absurd (true≢false (sym due.0 ∙ says))
fits_one scope forms line number fault (inr found) says none = words_fit scope forms (words line) number fault found.1 none

-- ---- the line that was asked

pub of_line : (scope : Scope) (forms given : Forms) (script line : List ℕ) (number at : ℕ) (fault : Option LineFault) (head rest text : List ℕ) → forms ≡ given
    → line ≡ numbered number (lines script) → IsFound scope forms line at fault → head ≡ head_at at fault → text ≡ head ++ rest → IsOfLine given script number text
of_line scope forms given script line number at fault head rest text same is found begins all =
    record {
      scope = scope;
      at = at;
      fault = fault;
      is_found = subst (λ (one : Forms). IsFound scope one (numbered number (lines script)) at fault) same
          (subst (λ (one : List ℕ). IsFound scope forms one at fault) is found);
      begins = record { rest = rest; is = all ∙ ap (λ (one : List ℕ). one ++ rest) begins };
    }

-- ---- the same of each command

pub of_command : (command : List ℕ) (forms : Forms) (script text told : List ℕ) (number : ℕ) → IsOfLine forms script number told
    → text ≡ (command ++ tab) ++ told → IsOfCommand command script number text
of_command command forms script text told number is_told is = record { forms = forms; told = told; is_told = is_told; is = is }

pub of_each : (script play serve table text : List ℕ) (number : ℕ) → IsOfCommand (codes "play") script number play
    → IsOfCommand (codes "serve") script number serve → IsOfCommand (codes "table") script number table
    → text ≡ (play ++ serve) ++ table → IsOfEach script number text
of_each script play serve table text number is_play is_serve is_table is =
    record { play = play; serve = serve; table = table; is_play = is_play; is_serve = is_serve; is_table = is_table; is = is }

-- ---- a list

pub whole_list : {E : Type 0} (list : List ℕ) (number : ℕ) (result : Result (Vec ℕ Global) E) → number ≡ 0 → IfOk result (λ text. IsOfItem list number text.items)
whole_list list number (Ok text) none = inl none
whole_list list number (Err error) none = tt

pub item_told : {E : Type 0} (list : List ℕ) (number : ℕ) (place : Option ℕ) (result : Result (Vec ℕ Global) E) → place ≡ item_place list number
    → IfOk result (λ text. BeginsWith (place_text place ++ tab) text.items) → IfOk result (λ text. IsOfItem list number text.items)
item_told list number place (Ok text) same begins = inr (subst (λ (one : Option ℕ). BeginsWith (place_text one ++ tab) text.items) same begins)
item_told list number place (Err error) same begins = tt

-- ---- an answer

pub answered : (question : Question) (given text : List ℕ) (before after : Option (List ℕ)) (failures failures_after status : ℕ) → IsAnswer question given text
    → Finishes text done status before after failures failures_after → Ends question given before after failures failures_after status
answered question given text before after failures failures_after status is written = inl (record { text = text; is = is; written = written })
