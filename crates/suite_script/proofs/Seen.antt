-- A language whose lines say what those of another say, seen through a function.
use Rattle.suite_script.proofs.Vocabulary.{◌≡◌, ℕ, Bool, true, List, [], ◌∷◌, map, Result, Ok, Err, refl, ◌∙◌, ap, inl, inr, IfOk, AllByRecursion, cases_Bool}
use Rattle.suite_script.proofs.Vocabulary.{Tables, ok_map, Done, script_output, Headed, Language, Said, Named, Own, Script, followed, language_of, later_line}
use Rattle.suite_script.proofs.Vocabulary.{name_line, named_line, own_line, owns, owns_in, script_of, scripted, with_own, Word, LineFault, ScriptFault, Line}

abbrev pub seen : {A B : Type 0} → (A → B) → Language A → Language B
seen see language = language_of language.is_known language.begins (λ names first words. ok_map see (language.own names first words))

-- ---- a line

abbrev seen_line : {A B : Type 0} → (A → B) → Said A → Said B
seen_line see (Named names) = Named names
seen_line see (Own own) = Own (see own)

own_seen : {A B : Type 0} (see : A → B) (own : Result A LineFault) → own_line (ok_map see own) ≡ ok_map (seen_line see) (own_line own)
own_seen see (Ok own) = refl
own_seen see (Err fault) = refl

named_seen : {A B : Type 0} (see : A → B) (names : Result Tables LineFault) → named_line names ≡ ok_map (seen_line see) (named_line names)
named_seen see (Ok names) = refl
named_seen see (Err fault) = refl

line_seen : {A B : Type 0} (see : A → B) (language : Language A) (begun : Bool) (names : Tables) (words : List Word)
    → later_line (seen see language) begun names words ≡ ok_map (seen_line see) (later_line language begun names words)
line_seen see language begun names [] = refl
line_seen see language begun names (first ∷ words) =
    elim (cases_Bool (language.begins first)) [
      | inl own ↦ rw own (own_seen see (language.own names first words))
      | inr named ↦ rw named (named_seen see (name_line language.is_known begun names first words))
    ]

-- ---- the lines that are left

own_more : {A B : Type 0} (see : A → B) (own : A) (later : Result (List A) ScriptFault) → with_own (see own) (ok_map (map see) later) ≡ ok_map (map see) (with_own own later)
own_more see own (Ok later) = refl
own_more see own (Err fault) = refl

follows : {A B : Type 0} (see : A → B) (number : ℕ) (said : Result (Said A) LineFault) (named : Tables → Result (List A) ScriptFault) (later : Result (List A) ScriptFault)
    (named_so : Tables → Result (List B) ScriptFault) (later_so : Result (List B) ScriptFault) → ((known : Tables) → named_so known ≡ ok_map (map see) (named known)) → later_so ≡ ok_map (map see) later
    → followed number (ok_map (seen_line see) said) named_so later_so ≡ ok_map (map see) (followed number said named later)
follows see number (Ok (Named known)) named later named_so later_so each rest = each known
follows see number (Ok (Own own)) named later named_so later_so each rest = ap (with_own (see own)) rest ∙ own_more see own later
follows see number (Err fault) named later named_so later_so each rest = refl

pub owns_seen : {A B : Type 0} (see : A → B) (language : Language A) (begun : Bool) (names : Tables) (lines : List Line)
    → owns_in (seen see language) begun names lines ≡ ok_map (map see) (owns_in language begun names lines)
owns_seen see language begun names [] = refl
owns_seen see language begun names (line ∷ more) =
    let named = λ (known : Tables). owns_in language begun known more in
    let named_so = λ (known : Tables). owns_in (seen see language) begun known more in
    ap (λ said. followed line.number said named_so (owns_in (seen see language) true names more)) (line_seen see language begun names line.words)
    ∙ follows see line.number (later_line language begun names line.words) named (owns_in language true names more) named_so (owns_in (seen see language) true names more)
    (λ known. owns_seen see language begun known more) (owns_seen see language true names more)

-- ---- a script prints the same, where what is printed is the same of what is seen

same_in : {H A B : Type 0} (see : A → B) (header : H) (printed : Script H A → List ℕ) (printed_so : Script H B → List ℕ) (owns : Result (List A) ScriptFault)
    → ((owns : List A) → printed_so (record { header = header; owns = map see owns }) ≡ printed (record { header = header; owns = owns }))
    → script_output printed_so (scripted header (ok_map (map see) owns)) ≡ script_output printed (scripted header owns)
same_in see header printed printed_so (Ok owns) each = ap Done (each owns)
same_in see header printed printed_so (Err fault) each = refl

pub same_output : {H A B : Type 0} (see : A → B) (language : H → Language A) (printed : Script H A → List ℕ) (printed_so : Script H B → List ℕ)
    → ((header : H) (owns : List A) → printed_so (record { header = header; owns = map see owns }) ≡ printed (record { header = header; owns = owns }))
    → (given : Result (Headed H) ScriptFault) → script_output printed_so (script_of (λ header. seen see (language header)) given) ≡ script_output printed (script_of language given)
same_output see language printed printed_so each (Ok headed) =
    ap (λ owns. script_output printed_so (scripted headed.value owns)) (owns_seen see (language headed.value) headed.rest.begun headed.rest.names headed.rest.lines)
    ∙ same_in see headed.value printed printed_so (owns (language headed.value) headed.rest) (each headed.value)
same_output see language printed printed_so each (Err fault) = refl

-- ---- what holds of all that a line may say holds of all that the lines say

abbrev each_said : {A : Type 0} → (A → Type 0) → Said A → Type 0
each_said P (Named names) = Unit {0}
each_said P (Own own) = P own

each_own : {A : Type 0} (P : A → Type 0) (own : Result A LineFault) → IfOk own P → IfOk (own_line own) (each_said P)
each_own P (Ok own) holds = holds
each_own P (Err fault) holds = tt

each_named : {A : Type 0} (P : A → Type 0) (names : Result Tables LineFault) → IfOk (named_line names) (each_said P)
each_named P (Ok names) = tt
each_named P (Err fault) = tt

each_line : {A : Type 0} (P : A → Type 0) (language : Language A) (begun : Bool) (names : Tables) (words : List Word)
    → ((names : Tables) (first : Word) (words : List Word) → IfOk (language.own names first words) P) → IfOk (later_line language begun names words) (each_said P)
each_line P language begun names [] all = tt
each_line P language begun names (first ∷ words) all =
    elim (cases_Bool (language.begins first)) [
      | inl own ↦ rw own (each_own P (language.own names first words) (all names first words))
      | inr named ↦ rw named (each_named P (name_line language.is_known begun names first words))
    ]

each_after : {A : Type 0} (P : A → Type 0) (number : ℕ) (said : Result (Said A) LineFault) (named : Tables → Result (List A) ScriptFault) (later : Result (List A) ScriptFault)
    → IfOk said (each_said P) → ((known : Tables) → IfOk (named known) (AllByRecursion P)) → IfOk later (AllByRecursion P) → IfOk (followed number said named later) (AllByRecursion P)
each_after P number (Ok (Named known)) named later holds each rest = each known
each_after P number (Ok (Own own)) named (Ok later) holds each rest = (holds, rest)
each_after P number (Ok (Own own)) named (Err fault) holds each rest = tt
each_after P number (Err fault) named later holds each rest = tt

pub each_of : {A : Type 0} (P : A → Type 0) (language : Language A) (begun : Bool) (names : Tables) (lines : List Line)
    → ((names : Tables) (first : Word) (words : List Word) → IfOk (language.own names first words) P) → IfOk (owns_in language begun names lines) (AllByRecursion P)
each_of P language begun names [] all = tt
each_of P language begun names (line ∷ more) all =
    each_after P line.number (later_line language begun names line.words) (λ known. owns_in language begun known more) (owns_in language true names more)
    (each_line P language begun names line.words all) (λ known. each_of P language begun known more all) (each_of P language true names more all)
