-- Text that is gathered and written in pieces.
use Rattle.suite_script.proofs.Vocabulary.{◌≡◌, ℕ, true, List, [], ◌++◌, Option, Some, None, Result, Ok, Err, refl, ◌∙◌, ap, sym, subst, append_assoc, IsErr}
use Rattle.suite_script.proofs.Vocabulary.{IsErrAnd, false≢true, append-nil, Adds, one_more, BrokeOff, Plays, Prints, Wrote, WroteSoFar, Output, Done, Faulty}
use Rattle.suite_script.proofs.Vocabulary.{IsBegun, StopsWith, is_done, text_of, play_error_of, ScriptError, PlayError}
use Rattle.suite_script.specs.declared.fault.ScriptError.TheVariants as script
use Rattle.suite_script.specs.declared.play_error.PlayError.TheVariants as play

-- ---- what a `?` hands on

pub failed : {A E : Type 0} (result : Result A E) (error : E) → IsErr result × IsErrAnd result (λ e. e ≡ error) → result ≡ Err error
failed (Ok given) error fails = cc (fails.0)
failed (Err e) error fails = ap (λ e. Err e) fails.1

-- ---- what is added

adds_nothing : (told : Option (List ℕ)) → Adds told [] told
adds_nothing None = tt
adds_nothing (Some before) = ap Some (sym (append-nil before))

-- one text after another
pub adds_both : (told now after : Option (List ℕ)) (first later : List ℕ) → Adds told first now → Adds now later after → Adds told (first ++ later) after
adds_both None now after first later one two = tt
adds_both (Some before) now after first later one two =
    subst (λ (it : Option (List ℕ)). Adds it later after) one two ∙ ap Some (append_assoc before first later)

-- ---- what is written of a text

-- nothing is written yet
pub wrote_nothing : (told : Option (List ℕ)) (whole : List ℕ) → WroteSoFar told whole whole told
wrote_nothing told whole = record { front = []; cut = refl; added = adds_nothing told }

-- moving what is gathered changes nothing in the whole
pub wrote_moved : (told now after : Option (List ℕ)) (whole gathered left rest : List ℕ) → WroteSoFar told whole (gathered ++ rest) now → WroteSoFar now gathered left after → WroteSoFar told whole (left ++ rest) after
wrote_moved told now after whole gathered left rest so moved = record {
  front = so.front ++ moved.front;
  cut =
      append_assoc so.front moved.front (left ++ rest)
      ∙ ap (λ text. so.front ++ text) (sym (append_assoc moved.front left rest) ∙ ap (λ text. text ++ rest) moved.cut)
      ∙ so.cut;
  added = adds_both told now after so.front moved.front so.added moved.added;
}

-- one line more is gathered
pub wrote_line : (told now : Option (List ℕ)) (whole gathered line rest more : List ℕ) → WroteSoFar told whole (gathered ++ rest) now → rest ≡ line ++ more → WroteSoFar told whole ((gathered ++ line) ++ more) now
wrote_line told now whole gathered line rest more so cut = record {
  front = so.front;
  cut = ap (λ text. so.front ++ text) (append_assoc gathered line more ∙ ap (λ text. gathered ++ text) (sym cut)) ∙ so.cut;
  added = so.added;
}

-- nothing is left but what is gathered
pub wrote_rest : (told now : Option (List ℕ)) (whole gathered rest : List ℕ) → WroteSoFar told whole (gathered ++ rest) now → rest ≡ [] → WroteSoFar told whole gathered now
wrote_rest told now whole gathered rest so none = record {
  front = so.front;
  cut = ap (λ text. so.front ++ text) (sym (ap (λ more. gathered ++ more) none ∙ append-nil gathered)) ∙ so.cut;
  added = so.added;
}

-- what is gathered is all that was left, and is written
pub wrote_all : (output : Output) (told now after : Option (List ℕ)) (gathered : List ℕ) → is_done output ≡ true → WroteSoFar told (text_of output) gathered now → Adds now gathered after → Wrote output told after
wrote_all (Done text) told now after gathered done so added = subst (λ (whole : List ℕ). Adds told whole after) so.cut (adds_both told now after so.front gathered so.added added)
wrote_all (Faulty line) told now after gathered done so added = absurd (false≢true done)

-- ---- what is written where memory ran out

pub begun_nothing : (output : Output) → IsBegun output []
begun_nothing (Done text) = (text, refl)
begun_nothing (Faulty line) = refl

pub unwritten : (output : Output) (told : Option (List ℕ)) → BrokeOff output told told
unwritten output told = record { front = []; begun = begun_nothing output; added = adds_nothing told }

pub broke_off : (output : Output) (told now : Option (List ℕ)) (left : List ℕ) → is_done output ≡ true → WroteSoFar told (text_of output) left now → BrokeOff output told now
broke_off (Done text) told now left done so = record { front = so.front; begun = (left, so.cut); added = so.added }
broke_off (Faulty line) told now left done so = absurd (false≢true done)

-- the text of a line, of which nothing is written
pub prints_nothing : (told : Option (List ℕ)) (gathered left : List ℕ) (failures : ℕ) → Prints (Err play.Memory) gathered left told told failures failures
prints_nothing told gathered left failures = ((gathered, wrote_nothing told gathered), refl)

-- a line was not printed whole, and so its script is not
pub prints_on : (error : PlayError) (output : Output) (told now after : Option (List ℕ)) (gathered left rest : List ℕ) (failures failures_now failures_after : ℕ)
    → is_done output ≡ true → WroteSoFar told (text_of output) (gathered ++ rest) now → failures_now ≡ failures
    → Prints (Err error) gathered left now after failures_now failures_after → Plays (Err error) output told after failures failures_after
prints_on play.Memory output told now after gathered left rest failures failures_now failures_after done so same prints =
    (broke_off output told after (prints.0.0 ++ rest) done (wrote_moved told now after (text_of output) gathered prints.0.0 rest so prints.0.1), prints.1 ∙ same)
prints_on play.WriteFailed output told now after gathered left rest failures failures_now failures_after done so same prints = prints ∙ ap one_more same
prints_on (play.Faulty fault) output told now after gathered left rest failures failures_now failures_after done so same prints = absurd prints

-- ---- a script that was not read to its end, before anything was written

pub stops : (error : ScriptError) (output : Output) (told : Option (List ℕ)) (failures : ℕ) → StopsWith error output → Plays (Err (play_error_of error)) output told told failures failures
stops (script.Faulty fault) output told failures is = (is, (refl, refl))
stops script.Memory output told failures is = (unwritten output told, refl)
