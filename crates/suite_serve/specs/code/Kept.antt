-- Lines as the code keeps them.
use Rattle.std.specs.Prelude.{map}
use Rattle.file_ops.specs.Steps.{ok_map}
use Rattle.suite_play.specs.code.Kept.{kept_job}
use Rattle.suite_script.specs.Scripts.{Language, language_of}
use Rattle.suite_serve.specs.Commands.{command_in, is_command, is_known}
use Rattle.suite_serve.specs.Scripts.{Plan}
use Rattle.suite_serve.specs.declared.command.Command.{Command}
use Rattle.suite_serve.specs.declared.command.Command.TheVariants.{Job, Together}
use Rattle.suite_serve.specs.declared.language.JobLines.{JobLines}

-- a line as the code keeps it: of a job's operations one more than there may be, which make the same transaction as all
abbrev pub kept_command : Command → Command
kept_command (Job job) = Job (kept_job job)
kept_command Together = Together

-- the language of a script with these servers
abbrev pub commands : JobLines → Language Command
commands lines = language_of is_known is_command (λ names first words. ok_map kept_command (command_in lines.last_server names first words))

abbrev pub kept_plan : Plan → Plan
kept_plan plan = record plan { jobs = map kept_job plan.jobs }
