-- A session over a text that `play` reads without a fault is `play`.
use Rattle.suite_session.proofs.Vocabulary.{◌≡◌, ◌∙◌, ℕ, ◌+◌, Bool, true, false, List, [], ◌∷◌, ◌++◌, length, Result, Ok, Err, refl, sym, ap, subst, arith}
use Rattle.suite_session.proofs.Vocabulary.{list_any, lines, or_parts, append-nil, done, one_more, lines_are_cut, Came, Done, Going, Left, Lost, Unkept, after}
use Rattle.suite_session.proofs.Vocabulary.{answers, first_of, is_long, later_of, line_answer, line_next, line_status, one_line, status_of_kind, worse, Does}
use Rattle.suite_session.proofs.Vocabulary.{Fails, Keeps, Passes, after_line, does, kind_in, text_in, text_of, ScriptDesk, kept_output, kept_language, header}
use Rattle.suite_session.proofs.Vocabulary.{lines_of, play_output, Command, Opening, Headed, Pending, owns, no_names, script_of, scripted, whole, ScriptFault}
use Rattle.suite_session.proofs.Vocabulary.{AreDone, SessionIsPlay, first_state, manner, told_for, ways, opened_of, PlayService}
use Rattle.line_session.specs.Lines as cutting
use Rattle.line_session.specs.Turns as turn
use Rattle.suite_script.specs.Outputs as output
use Rattle.suite_session.proofs.HeaderLines.{begins_as}
use Rattle.suite_session.proofs.HeaderText.{header_opens}
use Rattle.suite_session.proofs.Played.{AreRight, Prints, are_played}
use Rattle.suite_session.specs.declared.play_service.PlayService.TheVariants as service

-- ---- a text that `play` reads

-- a script whose header and lines were read
record IsScript (given : Result (Headed Opening) ScriptFault) (printed : List ℕ) : Type 0 where
  got : Headed Opening
  commands : List Command
  is : given ≡ Ok got
  says : owns (kept_language got.value) got.rest ≡ Ok commands
  prints : lines_of (record { header = got.value; owns = commands }) ≡ printed

same_output : (a b : List ℕ) → output.Done a ≡ output.Done b → a ≡ b
same_output a b is = cc

said_script : (got : Headed Opening) (printed : List ℕ) (said : Result (List Command) ScriptFault) → owns (kept_language got.value) got.rest ≡ said
    → output.script_output lines_of (scripted got.value said) ≡ output.Done printed → IsScript (Ok got) printed
said_script got printed (Ok commands) says is = record { got = got; commands = commands; is = refl; says = says; prints = same_output _ printed is }
said_script got printed (Err fault) says is = absurd cc

read_script : (given : Result (Headed Opening) ScriptFault) (printed : List ℕ) → output.script_output lines_of (script_of kept_language given) ≡ output.Done printed → IsScript given printed
read_script (Ok got) printed is = said_script got printed (owns (kept_language got.value) got.rest) refl is
read_script (Err fault) printed is = absurd cc

all_printed : (text printed : List ℕ) → play_output text ≡ output.Done printed → Prints first_state 1 (lines text) printed
all_printed text printed is =
    let read = read_script (header (whole text)) printed (kept_output (header (whole text)) ∙ is) in
    let opened = header_opens (length (lines text) + 1) (lines text) read.got read.is in
    let below = are_played opened.left no_names (opened_of read.got.value) false opened.number read.commands
    (ap (λ (script : Pending). owns (kept_language read.got.value) script) (sym opened.rest_is) ∙ read.says) in
    opened.prints printed (subst (Prints (begins_as (service.Open (opened_of read.got.value))) opened.number opened.left) read.prints below)

-- ---- what a session tells for such lines

same_text : (number other : ℕ) (does : Does (ScriptDesk PlayService)) → status_of_kind (kind_in does) ≡ done → text_in number does ≡ text_in other does
same_text number other (Passes text) is = refl
same_text number other (Keeps text left) is = refl
same_text number other (Fails fault) is = absurd (omega (arith, is))

was_done : (keeps : Bool) (desk : ScriptDesk PlayService) (line : List ℕ) (came : Came (ScriptDesk PlayService)) → line_status (manner keeps) desk line came ≡ done → came ≡ Done
was_done keeps desk line Done is = refl
was_done keeps desk line Unkept is = absurd (omega (arith, is))
was_done keeps desk line Lost is = absurd (omega (arith, is))
was_done keeps desk line (Left later) is = absurd (omega (arith, is))

short_if : (keeps : Bool) (desk : ScriptDesk PlayService) (line : List ℕ) (long : Bool) → is_long line ≡ long → line_status (manner keeps) desk line Done ≡ done → is_long line ≡ false
short_if keeps desk line true long is =
    let status : line_status (manner keeps) desk line Done ≡ 3 = rw long refl in
    let three : ◌≡◌ {A = ℕ} 3 0 = sym status ∙ is in
    absurd (omega (arith, three))
short_if keeps desk line false long is = long

answer_is : (keeps : Bool) (desk : ScriptDesk PlayService) (number other : ℕ) (line : List ℕ) → is_long line ≡ false → status_of_kind (kind_in (does ways desk line)) ≡ done
    → line_answer (manner keeps) desk number line Done ≡ text_of ways desk other line
answer_is keeps desk number other line short right = rw short (append-nil (text_of ways desk number line) ∙ same_text number other (does ways desk line) right)

next_is : (keeps : Bool) (desk : ScriptDesk PlayService) (line : List ℕ) → is_long line ≡ false → line_next (manner keeps) desk line Done ≡ after_line ways desk line
next_is keeps desk line short = rw short refl

status_is : (keeps : Bool) (desk : ScriptDesk PlayService) (line : List ℕ) → is_long line ≡ false → status_of_kind (kind_in (does ways desk line)) ≡ done → line_status (manner keeps) desk line Done ≡ done
status_is keeps desk line short right = rw short right

no_worse : (before status : ℕ) → worse before status ≡ 0 → (before ≡ 0) × (status ≡ 0)
no_worse before status is = grind arith

status_before : (keeps : Bool) (going : Going (ScriptDesk PlayService)) (lines : List (List ℕ)) → (after (manner keeps) going lines).status ≡ done → going.status ≡ done
status_before keeps going [] is = is
status_before keeps going (line ∷ lines) is =
    (no_worse going.status (line_status (manner keeps) going.state line (first_of going.came)) (status_before keeps (one_line (manner keeps) going line) lines is)).0

-- after a line that was carried out
abbrev gone : ℕ → ℕ → ScriptDesk PlayService → List (Came (ScriptDesk PlayService)) → Going (ScriptDesk PlayService)
gone number status desk came = record { number = number; state = desk; status = status; came = came }

line_gone : (keeps : Bool) (number status : ℕ) (desk : ScriptDesk PlayService) (came : List (Came (ScriptDesk PlayService))) (line : List ℕ) → first_of came ≡ Done → is_long line ≡ false
    → status_of_kind (kind_in (does ways desk line)) ≡ done → status ≡ done → one_line (manner keeps) (gone number status desk came) line ≡ gone (one_more number) done (after_line ways desk line) (later_of came)
line_gone keeps number status desk came line is short right zero_is =
    ap (λ (it : Came (ScriptDesk PlayService)). gone (one_more number) (worse status (line_status (manner keeps) desk line it)) (line_next (manner keeps) desk line it) (later_of came)) is
    ∙ ap (λ (next : ScriptDesk PlayService). gone (one_more number) (worse status (line_status (manner keeps) desk line Done)) next (later_of came)) (next_is keeps desk line short)
    ∙ ap (λ (one : ℕ). gone (one_more number) (worse status one) (after_line ways desk line) (later_of came)) (status_is keeps desk line short right)
    ∙ ap (λ (one : ℕ). gone (one_more number) (worse one done) (after_line ways desk line) (later_of came)) zero_is

are_told : (keeps : Bool) (lines : List (List ℕ)) (number other status : ℕ) (desk : ScriptDesk PlayService) (came : List (Came (ScriptDesk PlayService))) → AreRight desk lines
    → (after (manner keeps) (gone number status desk came) lines).status ≡ done → answers (manner keeps) (gone number status desk came) lines ≡ told_for desk other lines
are_told keeps [] number other status desk came right is = refl
are_told keeps (line ∷ more) number other status desk came right is =
    let both = no_worse status (line_status (manner keeps) desk line (first_of came)) (status_before keeps (one_line (manner keeps) (gone number status desk came) line) more is) in
    let done_is = was_done keeps desk line (first_of came) both.1 in
    let short = short_if keeps desk line (is_long line) refl (ap (λ (it : Came (ScriptDesk PlayService)). line_status (manner keeps) desk line it) (sym done_is) ∙ both.1) in
    let next = line_gone keeps number status desk came line done_is short right.0 both.0 in
    ap (λ (it : Came (ScriptDesk PlayService)). line_answer (manner keeps) desk number line it ++ answers (manner keeps) (one_line (manner keeps) (gone number status desk came) line) more) done_is
    ∙ ap (λ text. text ++ answers (manner keeps) (one_line (manner keeps) (gone number status desk came) line) more) (answer_is keeps desk number other line short right.0)
    ∙ ap (λ (going : Going (ScriptDesk PlayService)). text_of ways desk other line ++ answers (manner keeps) going more) next
    ∙ ap (λ text. text_of ways desk other line ++ text) (are_told keeps more (one_more number) (other + 1) done (after_line ways desk line) (later_of came) right.1
    (ap (λ (going : Going (ScriptDesk PlayService)). (after (manner keeps) going more).status) (sym next) ∙ is))

record BeginsDone (came : List (Came (ScriptDesk PlayService))) : Type 0 where
  first : first_of came ≡ Done
  later : AreDone (later_of came)

begins_done : (came : List (Came (ScriptDesk PlayService))) → AreDone came → BeginsDone came
begins_done [] all = record { first = refl; later = tt }
begins_done (Done ∷ later) all = record { first = refl; later = all }
begins_done (Unkept ∷ later) all = absurd all
begins_done (Lost ∷ later) all = absurd all
begins_done (Left state ∷ later) all = absurd all

ends_well : (keeps : Bool) (lines : List (List ℕ)) (number : ℕ) (desk : ScriptDesk PlayService) (came : List (Came (ScriptDesk PlayService))) → AreDone came → AreRight desk lines → list_any is_long lines ≡ false
    → (after (manner keeps) (gone number done desk came) lines).status ≡ done
ends_well keeps [] number desk came all right short = refl
ends_well keeps (line ∷ more) number desk came all right short =
    let parts = or_parts (is_long line) (list_any is_long more) short in
    let first = begins_done came all in
    ap (λ (going : Going (ScriptDesk PlayService)). (after (manner keeps) going more).status) (line_gone keeps number done desk came line first.first parts.0 right.0 refl)
    ∙ ends_well keeps more (one_more number) (after_line ways desk line) (later_of came) first.later right.1 parts.1

-- ---- the law

pub session_is_play : SessionIsPlay
session_is_play keeps came turns status left printed answered played =
    let text = turn.heard turns in
    let prints = all_printed text printed played in
    let cut : cutting.all_lines text ≡ lines text = sym (lines_are_cut text) in
    let ended : status ≡ (after (manner keeps) (gone 1 done first_state came) (lines text)).status =
    answered.status_is ∙ ap (λ (all : List (List ℕ)). (after (manner keeps) (gone 1 done first_state came) all).status) cut in
    record {
      told = λ is.
          answered.all_told
          ∙ ap (answers (manner keeps) (gone 1 done first_state came)) cut
          ∙ are_told keeps (lines text) 1 1 done first_state came prints.1 (sym ended ∙ is)
          ∙ prints.0;
      ends = λ all short. ended ∙ ends_well keeps (lines text) 1 first_state came all prints.1 short;
    }
