-- What is printed: a line for each question, the answer of the access check; or the line of the first fault alone.
use Rattle.std.specs.Prelude.{◌≡◌, ℕ, ◌+◌, List, [], ◌∷◌, ◌++◌, codes, Vec, Result, Ok, Err}
use Rattle.std.specs.declared.alloc.Global.{Global}
use Rattle.std.specs.Str.Lines.{lines}
use Rattle.acl_core.specs.Checks.{check_of}
use Rattle.acl_core.specs.declared.check.Check.{Check}
use Rattle.acl_core.specs.declared.check.Check.TheVariants.{Granted, Denied}
use Rattle.acl_core.specs.declared.perms.Perms.{Perms}
use Rattle.acl_text.specs.Writing.{decider_text, permission_text}
use Rattle.suite_script.specs.Faults.{fault_line, line_feed}
use Rattle.suite_script.specs.Outputs.{Output, Done, Faulty}
use Rattle.suite_script.specs.declared.fault.LineFault.{LineFault}
use Rattle.suite_script.specs.declared.fault.ScriptError.{ScriptError}
use Rattle.suite_script.specs.declared.fault.ScriptError.TheVariants as script
use Rattle.may.specs.Questions.{question_in}
use Rattle.may.specs.declared.question.Question.{Question}

-- the answer of the access check
abbrev pub verdict : Question → Check
verdict question = check_of question.list question.owner question.group question.caller question.wanted

abbrev pub verdict_text : Perms → Check → List ℕ
verdict_text wanted Granted = codes "granted"
verdict_text wanted (Denied decider) = codes "denied " ++ permission_text wanted ++ codes " by " ++ decider_text decider

-- the line of a question that was answered
abbrev pub answer_line : Question → List ℕ
answer_line question = verdict_text question.wanted (verdict question) ++ line_feed

-- what comes after the answer to a line; or the line of its fault alone
abbrev pub answered_or : ℕ → Result Question LineFault → (List ℕ → Output) → Output
answered_or number (Ok question) next = next (answer_line question)
answered_or number (Err fault) next = Faulty (fault_line (record { line = number; fault = fault }))

-- the answers to lines, numbered from a number on, after those that were given: each line's own, or the first fault alone
abbrev pub answers_from : ℕ → List ℕ → List (List ℕ) → Output
answers_from number answered [] = Done answered
answers_from number answered (line ∷ more) =
    answered_or number (question_in line) (λ answer. answers_from (number + 1) (answered ++ answer) more)

-- what the program writes for its input
abbrev pub output_of : List ℕ → Output
output_of text = answers_from 1 [] (lines text)

-- what the program has gathered of an output, or why it stopped
abbrev pub Comes : Result (Vec ℕ Global) ScriptError → Output → Type 0
Comes (Ok text) output = output ≡ Done text.items
Comes (Err (script.Faulty fault)) output = output ≡ Faulty (fault_line fault)
Comes (Err script.Memory) output = Unit {0}
