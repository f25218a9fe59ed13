-- Why commands end before their work is done, and what is written to tell it.
use Rattle.std.specs.Prelude.{◌≡◌, ℕ, List, Option, Result, Ok, Err}
use Rattle.acl_text.specs.declared.read.TextFault.{TextFault}
use Rattle.acl_text.specs.declared.read.TextFault.TheVariants as text
use Rattle.byte_streams.specs.Endings.{Finishes, Lacks, TellsLine, bad_words, faulty, no_stream}
use Rattle.byte_streams.specs.declared.reading.ReadError.{ReadError}
use Rattle.byte_streams.specs.declared.reading.ReadError.TheVariants as read
use Rattle.suite_args.specs.declared.request.ArgsError.{ArgsError}
use Rattle.suite_args.specs.declared.request.ArgsError.TheVariants as args
use Rattle.suite_script.specs.Faults.{fault_line}
use Rattle.suite_script.specs.declared.fault.ScriptError.{ScriptError}
use Rattle.suite_script.specs.declared.fault.ScriptError.TheVariants as script
use Rattle.suite_script.specs.declared.play_error.PlayError.{PlayError}
use Rattle.suite_script.specs.declared.play_error.PlayError.TheVariants as play
use Rattle.suite_cli.specs.Outputs.{command_line_fault, text_fault_line, word_fault_line}
use Rattle.suite_cli.specs.declared.command_error.CommandError.{CommandError}
use Rattle.suite_cli.specs.declared.command_error.CommandError.TheVariants as error

-- ---- what other errors come to

abbrev pub of_args : ArgsError → CommandError
of_args args.CommandLine = error.CommandLine
of_args args.Memory = error.Memory

abbrev pub of_read : ReadError → CommandError
of_read read.Memory = error.Memory
of_read other = error.Stream

abbrev pub of_play : PlayError → CommandError
of_play (play.Faulty fault) = error.Script fault
of_play play.WriteFailed = error.Stream
of_play play.Memory = error.Memory

abbrev pub of_script : ScriptError → CommandError
of_script (script.Faulty fault) = error.Script fault
of_script script.Memory = error.Memory

abbrev pub of_text : TextFault → CommandError
of_text text.Memory = error.Memory
of_text fault = error.List fault

-- ---- what is written

-- an error was told
abbrev pub Told : CommandError → ℕ → Option (List ℕ) → Option (List ℕ) → ℕ → ℕ → Type 0
Told error.CommandLine status before after failures failures_after = Finishes command_line_fault bad_words status before after failures failures_after
Told (error.BadWord place) status before after failures failures_after = TellsLine (word_fault_line place) bad_words status before after failures failures_after
Told (error.Script fault) status before after failures failures_after = TellsLine (fault_line fault) faulty status before after failures failures_after
Told (error.List fault) status before after failures failures_after = TellsLine (text_fault_line fault) faulty status before after failures failures_after
Told error.Memory status before after failures failures_after = Lacks status before after failures failures_after
Told error.Stream status before after failures failures_after = (status ≡ no_stream) × ((after ≡ before) × (failures_after ≡ failures))

-- a command has ended with a status, where so much is written and so many writes failed; or with an error, and has ended once that is told
abbrev pub ComesTo : Result ℕ CommandError → Option (List ℕ) → ℕ → (ℕ → Option (List ℕ) → ℕ → Type 0) → Type 0
ComesTo (Ok status) written failures Ended = Ended status written failures
ComesTo (Err error) written failures Ended =
    (status : ℕ) (after : Option (List ℕ)) (failures_after : ℕ) → Told error status written after failures failures_after → Ended status after failures_after
