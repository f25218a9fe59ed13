-- Forms that a search finds, by the first word of a line.
use Rattle.std.proofs.Common.{◌≡◌, Bool, true, cond, List, [], ◌∷◌, ◌++◌, Option, Some, None, refl, ◌∙◌, ap, sym, subst, inl, inr, arith}
use Rattle.std.specs.Prelude.{Contains}
use Rattle.std.specs.Option.{option_or}
use Rattle.std.specs.List.{find}
use Rattle.std.specs.Str.{bytes_eq}
use Rattle.std.proofs.lemmas.Slice.Eq.{bytes_eq-Decides}
use Rattle.std.proofs.lemmas.Bool.{cases_Bool}
use Rattle.std.proofs.lemmas.List.Elements.{Contains-append_left, Contains-append_right}
use Rattle.suite_script.specs.Words.{Word}
use Rattle.suite_script.specs.declared.form.LineForm.{LineForm}
use Rattle.suite_script.specs.declared.form.Forms.{Forms}
use Rattle.std.proofs.lemmas.List.Folds.{find-append}
use Rattle.forms.specs.Mends.{all_of, form_in}

-- the first of a list is in it
first_in : {X : Type 0} (x : X) (xs : List X) → Contains (x ∷ xs) x
first_in x xs = (0, omega arith, refl)

-- what a search finds is in the list, and passes
pub found_in : {X : Type 0} (p : X → Bool) (xs : List X) (x : X) → find p xs ≡ Some x → Contains xs x × (p x ≡ true)
found_in p [] x found = let none : None ≡ Some x = found in cc
found_in p (y ∷ ys) x found =
    elim (cases_Bool (p y)) [
      | inl passes ↦
          let here : Some y ≡ Some x = ap (λ b. cond b (Some y) (find p ys)) (sym passes) ∙ found in
          let same : y ≡ x = cc in
          subst (λ z. Contains (y ∷ ys) z × (p z ≡ true)) same (first_in y ys, passes)
      | inr fails ↦
          let there : find p ys ≡ Some x = ap (λ b. cond b (Some y) (find p ys)) (sym fails) ∙ found in
          let rest = found_in p ys x there in
          (Contains-append_right (y ∷ []) ys x rest.0, rest.1)
    ]

-- the first form that begins with a word is one of the forms, and begins so
pub form_found : (forms : List LineForm) (word : Word) (form : LineForm) → find (λ form. bytes_eq word form.word.now) forms ≡ Some form → Contains forms form × (form.word.now ≡ word)
form_found forms word form found =
    let both = found_in (λ (form : LineForm). bytes_eq word form.word.now) forms form found in
    (both.0, sym ((bytes_eq-Decides word form.word.now).0 both.1))

-- lines of each part are lines
pub of_header : (forms : Forms) (form : LineForm) → Contains forms.header.now form → Contains (all_of forms) form
of_header forms form there =
    Contains-append_left (forms.header.now ++ forms.optional.now ++ forms.names.now) forms.own.now form
    (Contains-append_left (forms.header.now ++ forms.optional.now) forms.names.now form (Contains-append_left forms.header.now forms.optional.now form there))

pub of_optional : (forms : Forms) (form : LineForm) → Contains forms.optional.now form → Contains (all_of forms) form
of_optional forms form there =
    Contains-append_left (forms.header.now ++ forms.optional.now ++ forms.names.now) forms.own.now form
    (Contains-append_left (forms.header.now ++ forms.optional.now) forms.names.now form (Contains-append_right forms.header.now forms.optional.now form there))

pub of_names : (forms : Forms) (form : LineForm) → Contains forms.names.now form → Contains (all_of forms) form
of_names forms form there =
    Contains-append_left (forms.header.now ++ forms.optional.now ++ forms.names.now) forms.own.now form
    (Contains-append_right (forms.header.now ++ forms.optional.now) forms.names.now form there)

pub of_own : (forms : Forms) (form : LineForm) → Contains forms.own.now form → Contains (all_of forms) form
of_own forms form there = Contains-append_right (forms.header.now ++ forms.optional.now ++ forms.names.now) forms.own.now form there

-- a line of a part stands there that a search finds
pub optional_stands : (forms : Forms) (word : Word) (form : LineForm) → find (λ form. bytes_eq word form.word.now) forms.optional.now ≡ Some form
    → Contains (all_of forms) form × (form.word.now ≡ word)
optional_stands forms word form found = let both = form_found forms.optional.now word form found in (of_optional forms form both.0, both.1)

pub names_stand : (forms : Forms) (word : Word) (form : LineForm) → find (λ form. bytes_eq word form.word.now) forms.names.now ≡ Some form
    → Contains (all_of forms) form × (form.word.now ≡ word)
names_stand forms word form found = let both = form_found forms.names.now word form found in (of_names forms form both.0, both.1)

pub own_stands : (forms : Forms) (word : Word) (form : LineForm) → find (λ form. bytes_eq word form.word.now) forms.own.now ≡ Some form
    → Contains (all_of forms) form × (form.word.now ≡ word)
own_stands forms word form found = let both = form_found forms.own.now word form found in (of_own forms form both.0, both.1)

-- the first form of all that begins with a word is that of the first part that has one
pub form_known : (forms : Forms) (word : Word) (header optional names own one two three : Option LineForm) → header ≡ find (λ form. bytes_eq word form.word.now) forms.header.now
    → optional ≡ find (λ form. bytes_eq word form.word.now) forms.optional.now → names ≡ find (λ form. bytes_eq word form.word.now) forms.names.now
    → own ≡ find (λ form. bytes_eq word form.word.now) forms.own.now → one ≡ option_or header optional → two ≡ option_or one names → three ≡ option_or two own
    → three ≡ form_in forms word
form_known forms word header optional names own one two three header_is optional_is names_is own_is one_is two_is three_is =
    let is = λ (form : LineForm). bytes_eq word form.word.now in
    three_is
    ∙ (λ i. option_or ((two_is ∙ (λ j. option_or ((one_is ∙ (λ k. option_or (header_is k) (optional_is k))) j) (names_is j))) i) (own_is i))
    ∙ sym (find-append is (forms.header.now ++ forms.optional.now ++ forms.names.now) forms.own.now
    ∙ ap (λ found. option_or found (find is forms.own.now))
    (find-append is (forms.header.now ++ forms.optional.now) forms.names.now
    ∙ ap (λ found. option_or found (find is forms.names.now)) (find-append is forms.header.now forms.optional.now)))
