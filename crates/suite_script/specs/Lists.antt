-- Access lists and modes as words.
use Rattle.std.specs.Prelude.{ℕ, ◌+◌, ◌-◌, ◌*◌, ◌==◌, nat_le, Bool, ◌&&◌, if◌then◌else◌, List, length, fold, Option, Some, None, Result, Ok, Err}
use Rattle.std.specs.List.{list_all, list_any}
use Rattle.acl_core.specs.declared.lists.Lists.{Lists}
use Rattle.acl_text.specs.Layout.{is_white}
use Rattle.acl_text.specs.Sides.{lists_of}
use Rattle.acl_text.specs.Tables.{Tables}
use Rattle.acl_text.specs.Texts.{fault, said_in}
use Rattle.acl_text.specs.declared.read.TextFault.{TextFault}
use Rattle.file_ops.specs.declared.operation.Init.{Init}
use Rattle.file_ops.specs.declared.operation.Init.TheVariants as given
use Rattle.file_ops.specs.Steps.{◌>>=◌}
use Rattle.suite_script.specs.declared.fault.LineFault.{LineFault}
use Rattle.suite_script.specs.declared.fault.LineFault.TheVariants.{Form, List as no_list}
use Rattle.suite_script.specs.Words.{Word, Taken, word}

-- the lists that a text spells, where it has no fault
abbrev pub lists_spelled : Tables → Word → Option TextFault → Result Lists LineFault
lists_spelled names text (Some fault) = Err (no_list fault)
lists_spelled names text None = Ok (lists_of (said_in text names))

-- lists as a word: their text has no white space
abbrev pub lists_in : Tables → Word → Result Lists LineFault
lists_in names text = if list_any is_white text then Err Form else lists_spelled names text (fault text names)

abbrev pub acl : Tables → List Word → Result (Taken Lists) LineFault
acl names words = do
  next ← word words
  lists ← lists_in names next.value
  Ok (record { value = lists; rest = next.rest })

-- three octal digits are a mode
abbrev pub is_mode : Word → Bool
is_mode text = (length text == 3) && list_all (λ byte. nat_le 48 byte && nat_le byte 55) text

abbrev pub mode_of : Word → ℕ
mode_of text = fold (λ mode byte. 8 * mode + (byte - 48)) 0 text

abbrev pub init_of : Result Lists LineFault → Result Init LineFault
init_of (Ok lists) = Ok (given.Lists lists)
init_of (Err fault) = Err fault

-- the lists that a new file or folder gets: those of a mode, or lists that are given
abbrev pub init_in : Tables → Word → Result Init LineFault
init_in names text = if is_mode text then Ok (given.Mode (mode_of text)) else init_of (lists_in names text)

abbrev pub init : Tables → List Word → Result (Taken Init) LineFault
init names words = do
  next ← word words
  given ← init_in names next.value
  Ok (record { value = given; rest = next.rest })
