-- Lines that ask, and change nothing.
use Rattle.std.specs.Prelude.{ℕ, List, [], ◌∷◌, codes, Option, Some, None, Result, Ok, Err}
use Rattle.std.specs.List.{find}
use Rattle.std.specs.Str.{bytes_eq}
use Rattle.file_ops.specs.Steps.{◌>>=◌, ◌>>◌}
use Rattle.suite_script.specs.Words.{Word, at_end, word}
use Rattle.suite_script.specs.declared.fault.LineFault.{LineFault}
use Rattle.suite_script.specs.declared.fault.LineFault.TheVariants.{Form}
use Rattle.suite_session.specs.Copies.{copies_text}
use Rattle.suite_session.specs.HeldLocks.{locks_text}
use Rattle.suite_session.specs.Places.{room_text}
use Rattle.suite_session.specs.Rows.{content_line, row_line, standing}
use Rattle.suite_session.specs.declared.open_service.OpenService.{OpenService}
use Rattle.suite_session.specs.declared.question.Question.{Question}
use Rattle.suite_session.specs.declared.question.Question.TheVariants as question

-- how the first word is written
abbrev pub spelling : Question → Word
spelling question.Row = codes "row"
spelling question.Content = codes "content"
spelling question.Copies = codes "copies"
spelling question.Locks = codes "locks"
spelling question.Room = codes "room"

abbrev pub questions : List Question
questions = question.Row ∷ question.Content ∷ question.Copies ∷ question.Locks ∷ question.Room ∷ []

abbrev pub question_in : Word → Option Question
question_in text = find (λ question. bytes_eq text (spelling question)) questions

-- the path that a line names, which is all that is left
abbrev pub path_in : List Word → Result Word LineFault
path_in words = do
  path ← word words
  at_end path.rest
  Ok path.value

-- what is told: what stands at the path, or else the bytes of the file there
abbrev pub shown_line : OpenService → Question → Word → List ℕ
shown_line service question.Row path = row_line path (standing service.world.world service.settings.servers path)
shown_line service _ path = content_line path (standing service.world.world service.settings.servers path)

-- or what each server has of it; or all locks; or how many places are taken
abbrev pub question_text : OpenService → Question → Word → List ℕ
question_text service question.Row path = shown_line service question.Row path
question_text service question.Content path = shown_line service question.Content path
question_text service question.Copies path = copies_text service.world.world service.settings.servers path
question_text service question.Locks path = locks_text service.settings service.world.world service.settings.servers
question_text service question.Room path = room_text service.world.world service.settings.servers

-- some lines name a path, and others nothing
abbrev pub of_path : OpenService → Question → List Word → Result (List ℕ) LineFault
of_path service asked words = do
  path ← path_in words
  Ok (question_text service asked path)

abbrev pub of_all : OpenService → Question → List Word → Result (List ℕ) LineFault
of_all service asked words = do
  at_end words
  Ok (question_text service asked [])

abbrev pub answer_in : OpenService → Question → List Word → Result (List ℕ) LineFault
answer_in service question.Row words = of_path service question.Row words
answer_in service question.Content words = of_path service question.Content words
answer_in service question.Copies words = of_path service question.Copies words
answer_in service question.Locks words = of_all service question.Locks words
answer_in service question.Room words = of_all service question.Room words

abbrev pub told_by : OpenService → Option Question → List Word → Result (List ℕ) LineFault
told_by service (Some question) words = answer_in service question words
told_by service None words = Err Form

abbrev pub told_of : OpenService → Word → List Word → Result (List ℕ) LineFault
told_of service first words = told_by service (question_in first) words
