-- Lines as the code keeps them.
use Rattle.file_ops.specs.Steps.{ok_map}
use Rattle.txn_core.specs.declared.job.Job.{Job}
use Rattle.txn_core.specs.declared.job.Job.TheVariants.{Transaction, Sweep}
use Rattle.run_core.specs.declared.event.Event as happening
use Rattle.run_core.specs.declared.event.Event.TheVariants.{Begin}
use Rattle.suite_script.specs.Scripts.{Language, language_of}
use Rattle.suite_script.specs.code.Kept.{kept}
use Rattle.suite_play.specs.Commands.{command_in, is_command}
use Rattle.suite_play.specs.Headers.{is_known}
use Rattle.suite_play.specs.declared.command.Command.{Command}
use Rattle.suite_play.specs.declared.command.Command.TheVariants.{Event}
use Rattle.suite_play.specs.declared.places.Places.{Places}

-- a line as the code keeps it: one operation more than a transaction may have is as good as any more
abbrev pub kept_job : Job → Job
kept_job (Transaction caller site ops) = Transaction caller site (kept ops)
kept_job (Sweep server) = Sweep server

abbrev pub kept_event : happening.Event → happening.Event
kept_event (Begin agent job) = Begin agent (kept_job job)
kept_event other = other

abbrev pub kept_command : Command → Command
kept_command (Event event) = Event (kept_event event)
kept_command other = other

-- the language of a script with these servers and agents
abbrev pub commands : Places → Language Command
commands places = language_of is_known is_command (λ names first words. ok_map kept_command (command_in places names first words))
