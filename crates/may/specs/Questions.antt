-- A question, as the words of its line ask it.
use Rattle.std.specs.Prelude.{ℕ, List, Result, Ok}
use Rattle.file_ops.specs.Steps.{◌>>=◌}
use Rattle.script_text.specs.Words.{words}
use Rattle.suite_script.specs.Words.{Word, at_end, caller, id, word}
use Rattle.suite_script.specs.declared.fault.LineFault.{LineFault}
use Rattle.may.specs.Words.{list_in, wanted_in}
use Rattle.may.specs.declared.question.Question.{Question}

-- `OWNER GROUP UID GID[,GROUP..] WANTED LIST`
abbrev pub asked : List Word → Result Question LineFault
asked words = do
  owner ← id words
  group ← id owner.rest
  caller ← caller group.rest
  letters ← word caller.rest
  wanted ← wanted_in letters.value
  text ← word letters.rest
  end ← at_end text.rest
  list ← list_in text.value
  Ok (record { owner = owner.value; group = group.value; caller = caller.value; wanted = wanted; list = list })

abbrev pub question_in : List ℕ → Result Question LineFault
question_in line = asked (words line)
