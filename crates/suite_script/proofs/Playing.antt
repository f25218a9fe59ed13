-- Playing a script line by line.
use Rattle.suite_script.proofs.Vocabulary.{◌≡◌, ℕ, true, List, [], ◌∷◌, ◌++◌, Option, Result, Ok, Err, refl, ◌∙◌, ap, sym, append_assoc, false≢true}
use Rattle.suite_script.proofs.Vocabulary.{append-nil, ScriptError, ScriptFault, WroteSoFar, comes_to, Done, Finds, StopsWith, is_done, script_output, text_of}
use Rattle.suite_script.proofs.Vocabulary.{Checks, GivesOwn, Heads, fault_of, Headed, Language, Pending, Script, owns, script_of, scripted, with_own}
use Rattle.suite_script.specs.declared.fault.ScriptError.TheVariants as script
use Rattle.suite_script.proofs.Gathering.{wrote_moved}

-- what the lines that are left print, where they have no fault
abbrev pub left_lines : {A : Type 0} → (List A → List ℕ) → Result (List A) ScriptFault → List ℕ
left_lines lines (Ok later) = lines later
left_lines lines (Err fault) = []

-- ---- a script that is looked through

found_in : {H A : Type 0} (printed : Script H A → List ℕ) (header : H) (later : Result (List A) ScriptFault) (result : Result (Unit {0}) ScriptError)
    → Checks result (fault_of later) → Finds result (script_output printed (scripted header later))
found_in printed header (Ok later) (Ok done) checks = refl
found_in printed header (Err fault) (Ok done) checks = cc
found_in printed header (Ok later) (Err (script.Faulty given)) checks = cc
found_in printed header (Err fault) (Err (script.Faulty given)) checks = cc
found_in printed header later (Err script.Memory) checks = tt

pub found : {H A : Type 0} (language : H → Language A) (printed : Script H A → List ℕ) (given : Result (Headed H) ScriptFault) (header : H) (rest : Pending) (result : Result (Unit {0}) ScriptError)
    → given ≡ Ok (record { value = header; rest = rest }) → Checks result (fault_of (owns (language header) rest)) → Finds result (script_output printed (script_of language given))
found language printed given header rest result read checks =
    rw read (found_in printed header (owns (language header) rest) result checks)

-- ---- a script that is played as it is read

opened_in : {H A : Type 0} (printed : Script H A → List ℕ) (header : H) (later : Result (List A) ScriptFault) → script_output printed (scripted header later) ≡ comes_to [] (λ owns. printed (record { header = header; owns = owns })) later
opened_in printed header (Ok later) = refl
opened_in printed header (Err fault) = refl

-- what it comes to once its header was read
pub opened_output : {H A : Type 0} (language : H → Language A) (printed : Script H A → List ℕ) (given : Result (Headed H) ScriptFault) (header : H) (rest : Pending)
    → given ≡ Ok (record { value = header; rest = rest }) → script_output printed (script_of language given) ≡ comes_to [] (λ owns. printed (record { header = header; owns = owns })) (owns (language header) rest)
opened_output language printed given header rest read =
    ap (λ one. script_output printed (script_of language one)) read ∙ opened_in printed header (owns (language header) rest)

pub headless : {H A : Type 0} (language : H → Language A) (printed : Script H A → List ℕ) (given : Result (Headed H) ScriptFault) (error : ScriptError) (after : Pending)
    → Heads {A = H} (Err error) after given → StopsWith error (script_output printed (script_of language given))
headless language printed given (script.Faulty fault) after is = ap (λ one. script_output printed (script_of language one)) is
headless language printed given script.Memory after is = tt

-- one line more
one_line : {A : Type 0} (printed line : List ℕ) (lines after_it : List A → List ℕ) (own : A) (later : Result (List A) ScriptFault) → ((more : List A) → lines (own ∷ more) ≡ line ++ after_it more)
    → comes_to (printed ++ line) after_it later ≡ comes_to printed lines (with_own own later)
one_line printed line lines after_it own (Ok later) one = ap Done (append_assoc printed line (after_it later) ∙ ap (λ more. printed ++ more) (sym (one later)))
one_line printed line lines after_it own (Err fault) one = refl

pub goes_on : {A : Type 0} (printed line : List ℕ) (lines after_it : List A → List ℕ) (own : A) (before later : Result (List A) ScriptFault) → ((more : List A) → lines (own ∷ more) ≡ line ++ after_it more)
    → before ≡ with_own own later → comes_to (printed ++ line) after_it later ≡ comes_to printed lines before
goes_on printed line lines after_it own before later one is = one_line printed line lines after_it own later one ∙ ap (comes_to printed lines) (sym is)

-- no line more
pub ends : {A : Type 0} (printed : List ℕ) (lines : List A → List ℕ) (left : Result (List A) ScriptFault) → left ≡ Ok [] → lines [] ≡ [] → comes_to printed lines left ≡ Done printed
ends printed lines left none nothing = ap (comes_to printed lines) none ∙ ap Done (ap (λ more. printed ++ more) nothing ∙ append-nil printed)

pub stops_next : {A : Type 0} (error : ScriptError) (printed : List ℕ) (lines : List A → List ℕ) (before after : Result (List A) ScriptFault) → GivesOwn {A = A} (Err error) before after → StopsWith error (comes_to printed lines before)
stops_next (script.Faulty fault) printed lines before after is = ap (comes_to printed lines) is
stops_next script.Memory printed lines before after is = tt

-- the lines that are left were looked through
pub found_left : {A : Type 0} (result : Result (Unit {0}) ScriptError) (printed : List ℕ) (lines : List A → List ℕ) (left : Result (List A) ScriptFault) → Checks result (fault_of left) → Finds result (comes_to printed lines left)
found_left (Ok done) printed lines (Ok later) checks = refl
found_left (Ok done) printed lines (Err fault) checks = cc
found_left (Err (script.Faulty given)) printed lines (Ok later) checks = cc
found_left (Err (script.Faulty given)) printed lines (Err fault) checks = cc
found_left (Err script.Memory) printed lines left checks = tt

-- what was printed is written, or gathered still
pub still_done : {A : Type 0} (printed gathered : List ℕ) (lines : List A → List ℕ) (left : Result (List A) ScriptFault) → is_done (comes_to printed lines left) ≡ true → is_done (comes_to gathered lines left) ≡ true
still_done printed gathered lines (Ok later) done = refl
still_done printed gathered lines (Err fault) done = done

pub moved_on : {A : Type 0} (told now after : Option (List ℕ)) (whole printed gathered : List ℕ) (lines : List A → List ℕ) (left : Result (List A) ScriptFault) → is_done (comes_to printed lines left) ≡ true
    → WroteSoFar told whole (text_of (comes_to printed lines left)) now → WroteSoFar now printed gathered after → WroteSoFar told whole (text_of (comes_to gathered lines left)) after
moved_on told now after whole printed gathered lines (Ok later) done so moved = wrote_moved told now after whole printed gathered (lines later) so moved
moved_on told now after whole printed gathered lines (Err fault) done so moved = absurd (false≢true done)
