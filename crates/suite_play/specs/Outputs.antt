-- What `play` writes, as a function of what it reads.
use Rattle.std.specs.Prelude.{ℕ, ◌-◌, List, Result}
use Rattle.suite_prefix.specs.SettingsRules.{Opening}
use Rattle.txn_core.specs.Agents.{fixed_of}
use Rattle.run_core.specs.Worlds.{opening}
use Rattle.suite_script.specs.declared.fault.ScriptFault.{ScriptFault}
use Rattle.suite_script.specs.Outputs.{Output, script_output}
use Rattle.suite_script.specs.Scripts.{Language, Script, language_of, script_of, whole}
use Rattle.suite_play.specs.declared.command.Command.{Command}
use Rattle.suite_play.specs.declared.places.Places.{Places}
use Rattle.suite_play.specs.Commands.{command_in, is_command}
use Rattle.suite_play.specs.Headers.{header, is_known}
use Rattle.suite_play.specs.Playing.{all_lines}

-- the servers and agents of a header are numbered from 0
abbrev pub places_of : Opening → Places
places_of settings = record { last_server = settings.servers - 1; last_agent = settings.agents - 1 }

abbrev pub language : Opening → Language Command
language settings = language_of is_known is_command (command_in (places_of settings))

-- a script of events as text: what it says, or its first faulty line
abbrev pub script_in : List ℕ → Result (Script Opening Command) ScriptFault
script_in text = script_of language (header (whole text))

-- what a script prints
abbrev pub lines_of : Script Opening Command → List ℕ
lines_of script = all_lines (fixed_of script.header) (opening script.header) script.owns

-- what `play` writes for a script
abbrev pub play_output : List ℕ → Output
play_output text = script_output lines_of (script_in text)
