-- A session prints what `play` prints.
use Rattle.std.specs.Prelude.{◌≡◌, ℕ, ◌+◌, Bool, false, List, [], ◌∷◌, ◌++◌, Ok}
use Rattle.std.specs.List.{list_any}
use Rattle.std.specs.Str.Lines.{lines}
use Rattle.acl_text.specs.Tables.{Tables}
use Rattle.byte_streams.specs.Endings.{done}
use Rattle.line_session.specs.Answers.{Came, Done, Left, Lost, Manner, Unkept, begin, is_long, manner_of}
use Rattle.line_session.specs.InTime.{IsAnswered}
use Rattle.line_session.specs.Turns as turn
use Rattle.script_desk.specs.Doing.{after_line, kind_of_line, text_of}
use Rattle.script_desk.specs.declared.desk.ScriptDesk.{ScriptDesk}
use Rattle.suite_play.specs.Commands.{is_command}
use Rattle.suite_play.specs.Headers.{is_known}
use Rattle.suite_play.specs.Outputs.{play_output}
use Rattle.suite_play.specs.Playing.{all_lines}
use Rattle.suite_play.specs.declared.command.Command.{Command}
use Rattle.suite_script.specs.Outputs as output
use Rattle.suite_script.specs.Scripts.{Language, language_of, lines_from, no_names, owns_in}
use Rattle.suite_session.specs.Promised.{ways}
use Rattle.suite_session.specs.Services.{at_first, own_of}
use Rattle.suite_session.specs.declared.open_service.OpenService.{OpenService}
use Rattle.suite_session.specs.declared.play_service.PlayService.{PlayService}
use Rattle.suite_session.specs.declared.play_service.PlayService.TheVariants as service
use Rattle.txn_core.specs.Agents.{fixed_of}

-- what is told for lines, from one of this number on
abbrev pub told_for : ScriptDesk PlayService → ℕ → List (List ℕ) → List ℕ
told_for desk number [] = []
told_for desk number (line ∷ later) = text_of ways desk number line ++ told_for (after_line ways desk line) (number + 1) later

-- what lines say there, as the code keeps it
abbrev pub language_below : OpenService → Language Command
language_below open_service = language_of is_known is_command (own_of (service.Open open_service))

-- Lines that have no fault, as `play` reads them, whether a command came before or not, are told what they print together on that world.
abbrev pub LinesBelowArePlayed : Type 0
LinesBelowArePlayed =
    (names : Tables) (open_service : OpenService) (begun : Bool) (number : ℕ) (lines : List (List ℕ)) (owns : List Command)
    → owns_in (language_below open_service) begun names (lines_from number lines) ≡ Ok owns
    → told_for (record { names = names; service = service.Open open_service }) number lines ≡ all_lines (fixed_of open_service.world.given) open_service.world.world owns

-- ---- a whole session

-- what is done with the lines of a session without marks, be they kept or not
abbrev pub manner : Bool → Manner (ScriptDesk PlayService)
manner keeps = manner_of (kind_of_line ways) (text_of ways) (after_line ways) false keeps

-- no line was read
abbrev pub first_state : ScriptDesk PlayService
first_state = record { names = no_names; service = at_first }

-- each line was carried out: memory never ran out, and each that was to be kept was kept
abbrev pub AreDone : List (Came (ScriptDesk PlayService)) → Type 0
AreDone [] = Unit {0}
AreDone (Done ∷ later) = AreDone later
AreDone (Unkept ∷ later) = ⊥
AreDone (Lost ∷ later) = ⊥
AreDone (Left state ∷ later) = ⊥

-- where its status is 0, it has told what is printed; and its status is 0 where each line was carried out, and none is too long
pub record IsPlayed (came : List (Came (ScriptDesk PlayService))) (turns : List turn.Turn) (status : ℕ) (printed : List ℕ) : Type 0 where
  pub told : status ≡ done → turn.told turns ≡ printed
  pub ends : AreDone came → list_any is_long (lines (turn.heard turns)) ≡ false → status ≡ done

-- A session that heard a text which `play` reads without a fault, its header too, has told what `play` prints for it.
abbrev pub SessionIsPlay : Type 0
SessionIsPlay =
    (keeps : Bool) (came : List (Came (ScriptDesk PlayService))) (turns : List turn.Turn) (status : ℕ) (left : ScriptDesk PlayService) (printed : List ℕ)
    → IsAnswered (manner keeps) (begin first_state came) turns status left → play_output (turn.heard turns) ≡ output.Done printed → IsPlayed came turns status printed
