-- A script that is read again once it was looked through.
use Rattle.std.specs.Prelude.{◌≡◌, ℕ, List, Option, Some, Result, Ok, Err}
use Rattle.byte_streams.specs.Streams.{Adds, one_more}
use Rattle.suite_play.specs.Outputs.{places_of}
use Rattle.suite_play.specs.code.Kept.{commands}
use Rattle.suite_play.specs.declared.command.Command.{Command}
use Rattle.suite_prefix.specs.SettingsRules.{Opening}
use Rattle.suite_script.specs.Scripts.{Headed, Pending, owns}
use Rattle.suite_script.specs.declared.fault.ScriptError.{ScriptError}
use Rattle.suite_script.specs.declared.fault.ScriptError.TheVariants as script
use Rattle.suite_script.specs.declared.fault.ScriptFault.{ScriptFault}
use Rattle.suite_script.specs.declared.play_error.PlayError.{PlayError}
use Rattle.suite_script.specs.declared.play_error.PlayError.TheVariants as play
use Rattle.trace.specs.declared.tracer.Script.{Script}

-- what the lines that are left say; or the first fault
abbrev pub left_in : Opening → Pending → Result (List Command) ScriptFault
left_in settings reader = owns (commands (places_of settings)) reader

-- a header was read, and this is left
abbrev pub Opens : Result Script ScriptError → Result (Headed Opening) ScriptFault → Type 0
Opens (Ok opened) given = given ≡ Ok (record { value = opened.settings; rest = opened.reader })
Opens (Err (script.Faulty fault)) given = given ≡ Err fault
Opens (Err script.Memory) given = Unit {0}

-- some text was written
pub record AddsSome (before after : Option (List ℕ)) : Type 0 where
  pub text : List ℕ
  pub added : Adds before text after

-- the lines that are left were played; or this is their first fault; or a write failed, or memory ran out
abbrev pub Reads : Result (Unit {0}) PlayError → Option ScriptFault → Option (List ℕ) → Option (List ℕ) → ℕ → ℕ → Type 0
Reads (Ok nothing) fault before after failures failures_after = AddsSome before after × (failures_after ≡ failures)
Reads (Err (play.Faulty given)) fault before after failures failures_after = fault ≡ Some given
Reads (Err play.WriteFailed) fault before after failures failures_after = failures_after ≡ one_more failures
Reads (Err play.Memory) fault before after failures failures_after = AddsSome before after × (failures_after ≡ failures)
