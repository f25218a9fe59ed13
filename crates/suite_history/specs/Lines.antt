-- The lines of a history.
use Rattle.std.specs.Prelude.{ℕ, ◌==◌, Bool, ◌||◌, if◌then◌else◌, List, [], ◌∷◌, codes, Result, Ok, Err}
use Rattle.std.specs.List.{slice_split}
use Rattle.std.specs.Str.{bytes_eq}
use Rattle.script_text.specs.Words.{words}
use Rattle.file_ops.specs.Steps.{◌>>=◌}
use Rattle.suite_script.specs.declared.fault.LineFault.{LineFault}
use Rattle.suite_script.specs.declared.fault.LineFault.TheVariants.{Form}
use Rattle.suite_script.specs.Forms.{max_number}
use Rattle.suite_script.specs.Words.{Word, number, word}
use Rattle.suite_history.specs.Asking.{request_in}
use Rattle.suite_history.specs.Told.{seen_in}
use Rattle.suite_history.specs.declared.line.Said.{Said}
use Rattle.suite_history.specs.declared.line.Said.TheVariants.{Root, Do, Call, Ret}

abbrev pub do_in : List Word → Result Said LineFault
do_in words = do
  request ← request_in words
  Ok (Do request.caller request.asked)

abbrev pub call_in : List Word → Result Said LineFault
call_in words = do
  name ← number max_number words
  request ← request_in name.rest
  Ok (Call name.value request.caller request.asked)

-- the words of the first part behind `ret`, and the parts after its semicolon
abbrev pub told_in : List Word → List (List ℕ) → Result Said LineFault
told_in words more = do
  name ← number max_number words
  seen ← seen_in name.rest more
  Ok (Ret name.value seen)

abbrev pub ret_in : List (List ℕ) → Result Said LineFault
ret_in [] = Err Form
ret_in (first ∷ more) = do
  ret ← word (words first)
  told_in ret.rest more

abbrev pub is_root : Word → Bool
is_root text = bytes_eq text (codes "root")

abbrev pub is_do : Word → Bool
is_do text = bytes_eq text (codes "do")

abbrev pub is_call : Word → Bool
is_call text = bytes_eq text (codes "call")

abbrev pub is_ret : Word → Bool
is_ret text = bytes_eq text (codes "ret")

abbrev pub is_known : Word → Bool
is_known text = is_root text || is_do text || is_call text || is_ret text

-- a line that begins with a word, and the words after it
abbrev pub said_by : List ℕ → Word → List Word → Result Said LineFault
said_by line first words =
    if is_root first then Ok Root
    else if is_do first then do_in words
    else if is_call first then call_in words
    else if is_ret first then ret_in (slice_split (λ byte. byte == 59) line)
    else Err Form

abbrev pub line_in : List ℕ → Result Said LineFault
line_in line = do
  first ← word (words line)
  said_by line first.value first.rest
