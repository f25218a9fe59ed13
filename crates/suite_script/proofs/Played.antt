-- A script that is played line by line: nothing is written until it is known to have no fault, and then in pieces.
use Rattle.suite_script.proofs.Vocabulary.{◌≡◌, ◌+◌, ℕ, Bool, true, false, List, [], ◌++◌, Option, Result, Ok, Err, refl, ◌∙◌, ap, sym, subst, false≢true}
use Rattle.suite_script.proofs.Vocabulary.{Adds, Plays, Prints, Wrote, WroteSoFar, comes_to, Output, Done, StopsWith, is_done, script_output, text_of}
use Rattle.suite_script.proofs.Vocabulary.{prints_from, Checks, Heads, fault_of, play_error_of, Headed, Language, Pending, Script, script_of, with_own}
use Rattle.suite_script.proofs.Vocabulary.{ScriptError, ScriptFault, PlayError}
use Rattle.suite_script.proofs.Gathering.{broke_off, prints_on, stops, wrote_all, wrote_nothing}
use Rattle.suite_script.proofs.Playing.{ends, found_left, goes_on, headless, left_lines, moved_on, still_done}
use Rattle.suite_script.specs.declared.fault.ScriptError.TheVariants as script

-- An output of which this is left, with what is gathered: nothing is written; or it is known to tell no fault.
abbrev pub PlayedTo : Bool → Output → Output → Option (List ℕ) → Option (List ℕ) → Type 0
PlayedTo false output left told now = (left ≡ output) × (now ≡ told)
PlayedTo true output left told now = (is_done output ≡ true) × ((is_done left ≡ true) × WroteSoFar told (text_of output) (text_of left) now)

pub record IsPlayed (faultless : Bool) (output left : Output) (told now : Option (List ℕ)) (failures failures_now : ℕ) : Type 0 where
  pub so_far : PlayedTo faultless output left told now
  pub same : failures_now ≡ failures

-- nothing is played yet
pub unplayed : (output left : Output) (told : Option (List ℕ)) (failures : ℕ) → left ≡ output → IsPlayed false output left told told failures failures
unplayed output left told failures is = record { so_far = (is, refl); same = refl }

-- ---- a line more

-- it was read
pub read_on : {S A : Type 0} {faultless : Bool} {output : Output} {told now : Option (List ℕ)} {failures failures_now : ℕ}
    (line : S → ℕ → A → List ℕ) (after : S → ℕ → A → S) (stage : S) (number : ℕ) (own : A) (printed : List ℕ) (before later : Result (List A) ScriptFault) → before ≡ with_own own later
    → IsPlayed faultless output (comes_to printed (prints_from line after stage number) before) told now failures failures_now
    → IsPlayed faultless output (comes_to (printed ++ line stage number own) (prints_from line after (after stage number own) (number + 1)) later) told now failures failures_now
read_on {faultless = faultless} {output = output} {told = told} {now = now} {failures = failures} {failures_now = failures_now} line after stage number own printed before later read is =
    subst (λ (left : Output). IsPlayed faultless output left told now failures failures_now)
    (sym (goes_on printed (line stage number own) (prints_from line after stage number) (prints_from line after (after stage number own) (number + 1)) own before later (λ more. refl) read)) is

sound : (faultless : Bool) (output left : Output) (told now : Option (List ℕ)) → is_done left ≡ true → PlayedTo faultless output left told now → PlayedTo true output left told now
sound false output left told now done is = (ap is_done (sym is.0) ∙ done, (done, rw (is.0, is.1) (wrote_nothing told (text_of output))))
sound true output left told now done is = is

-- those after it were looked through
pub looked_through : {A : Type 0} {faultless : Bool} {output : Output} {told now : Option (List ℕ)} {failures failures_now : ℕ}
    (printed : List ℕ) (lines : List A → List ℕ) (left : Result (List A) ScriptFault) → Checks (Ok tt) (fault_of left)
    → IsPlayed faultless output (comes_to printed lines left) told now failures failures_now → IsPlayed true output (comes_to printed lines left) told now failures failures_now
looked_through {faultless = faultless} {output = output} {told = told} {now = now} printed lines left checks is = record {
  so_far = sound faultless output (comes_to printed lines left) told now (found_left (Ok tt) printed lines left checks) is.so_far;
  same = is.same;
}

-- what it prints is written, or gathered still
pub moved_so : {A : Type 0} {faultless : Bool} {output : Output} {told now : Option (List ℕ)} {failures failures_now : ℕ}
    (after : Option (List ℕ)) (failures_after : ℕ) (printed gathered : List ℕ) (lines : List A → List ℕ) (left : Result (List A) ScriptFault) → faultless ≡ true → Prints (Ok tt) printed gathered now after failures_now failures_after
    → IsPlayed faultless output (comes_to printed lines left) told now failures failures_now → IsPlayed faultless output (comes_to gathered lines left) told after failures failures_after
moved_so {faultless = true} {output = output} {told = told} {now = now} after failures_after printed gathered lines left known prints is = record {
  so_far = (is.so_far.0, (still_done printed gathered lines left is.so_far.1.0, moved_on told now after (text_of output) printed gathered lines left is.so_far.1.0 is.so_far.1.1 prints.0));
  same = prints.1 ∙ is.same;
}
moved_so {faultless = false} after failures_after printed gathered lines left known prints is = absurd (false≢true known)

-- ---- where it is broken off

-- its header was not read
pub headed_badly : {H A : Type 0} (language : H → Language A) (printed : Script H A → List ℕ) (before given : Result (Headed H) ScriptFault) (error : ScriptError) (after : Pending) (told : Option (List ℕ)) (failures : ℕ)
    → before ≡ given → Heads {A = H} (Err error) after before → Plays (Err (play_error_of error)) (script_output printed (script_of language given)) told told failures failures
headed_badly {H = H} language printed before given error after told failures is heads =
    stops error (script_output printed (script_of language given)) told failures
    (headless language printed given error after (subst (λ (one : Result (Headed H) ScriptFault). Heads {A = H} (Err error) after one) is heads))

-- a line was not read, or memory ran out
pub stopped : (faultless : Bool) (error : ScriptError) (output left : Output) (told now : Option (List ℕ)) (failures failures_now : ℕ)
    → IsPlayed faultless output left told now failures failures_now → StopsWith error left → Plays (Err (play_error_of error)) output told now failures failures_now
stopped false error output left told now failures failures_now is stop =
    rw (is.same, is.so_far.1) (stops error output told failures (subst (λ (it : Output). StopsWith error it) is.so_far.0 stop))
stopped true (script.Faulty fault) output left told now failures failures_now is stop = absurd (false≢true (sym (ap is_done stop) ∙ is.so_far.1.0))
stopped true script.Memory output left told now failures failures_now is stop = (broke_off output told now (text_of left) is.so_far.0 is.so_far.1.1, is.same)

done_text : {A : Type 0} (printed : List ℕ) (lines : List A → List ℕ) (left : Result (List A) ScriptFault) → is_done (comes_to printed lines left) ≡ true
    → text_of (comes_to printed lines left) ≡ printed ++ left_lines lines left
done_text printed lines (Ok later) done = refl
done_text printed lines (Err fault) done = absurd (false≢true done)

-- a line was not printed whole
pub broken_line : {A : Type 0} {faultless : Bool} {output : Output} {told now : Option (List ℕ)} {failures failures_now : ℕ}
    (error : PlayError) (after : Option (List ℕ)) (failures_after : ℕ) (printed gathered : List ℕ) (lines : List A → List ℕ) (left : Result (List A) ScriptFault)
    → faultless ≡ true → Prints (Err error) printed gathered now after failures_now failures_after
    → IsPlayed faultless output (comes_to printed lines left) told now failures failures_now → Plays (Err error) output told after failures failures_after
broken_line {faultless = true} {output = output} {told = told} {now = now} {failures = failures} {failures_now = failures_now} error after failures_after printed gathered lines left known prints is =
    prints_on error output told now after printed gathered (left_lines lines left) failures failures_now failures_after is.so_far.0
    (subst (λ (text : List ℕ). WroteSoFar told (text_of output) text now) (done_text printed lines left is.so_far.1.0) is.so_far.1.1) is.same prints
broken_line {faultless = false} error after failures_after printed gathered lines left known prints is = absurd (false≢true known)

-- ---- nothing is left

wrote_it : (faultless : Bool) (output : Output) (told now after : Option (List ℕ)) (gathered : List ℕ) → PlayedTo faultless output (Done gathered) told now → Adds now gathered after → Wrote output told after
wrote_it false output told now after gathered is added =
    subst (λ (it : Output). Wrote it told after) is.0 (subst (λ (it : Option (List ℕ)). Adds it gathered after) is.1 added)
wrote_it true output told now after gathered is added = wrote_all output told now after gathered is.0 is.1.1 added

pub all_written : {A : Type 0} {faultless : Bool} {output : Output} {told now : Option (List ℕ)} {failures failures_now : ℕ}
    (after : Option (List ℕ)) (printed : List ℕ) (lines : List A → List ℕ) (left : Result (List A) ScriptFault) → left ≡ Ok [] → lines [] ≡ [] → Adds now printed after
    → IsPlayed faultless output (comes_to printed lines left) told now failures failures_now → Wrote output told after
all_written {faultless = faultless} {output = output} {told = told} {now = now} after printed lines left none nothing added is =
    wrote_it faultless output told now after printed (subst (λ (it : Output). PlayedTo faultless output it told now) (ends printed lines left none nothing) is.so_far) added
