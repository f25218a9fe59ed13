-- A world after a line: what `play` makes of it.
use Rattle.std.specs.Prelude.{ℕ}
use Rattle.txn_core.specs.Agents.{fixed_of}
use Rattle.run_core.specs.Opened.{Opened}
use Rattle.run_core.specs.Worlds.{step}
use Rattle.run_core.specs.declared.event.Event.{Event}
use Rattle.suite_play.specs.Playing.{played, steps}
use Rattle.suite_play.specs.declared.command.Command.{Command}

-- after a line
abbrev pub after : Opened → Command → Opened
after opened command = record opened { world = (played (fixed_of opened.given) opened.world command).world }

-- after an event
abbrev pub after_event : Opened → Event → Opened
after_event opened event = record opened { world = (step (fixed_of opened.given) opened.world event).world }

-- after so many steps of an agent, as long as it has a job
abbrev pub after_steps : Opened → ℕ → ℕ → Opened
after_steps opened agent count = record opened { world = (steps (fixed_of opened.given) opened.world agent count).world }
