-- What the lines of a script do to a world, and what they print.
use Rattle.std.specs.Prelude.{ℕ, zero, suc, List, [], ◌∷◌, ◌++◌}
use Rattle.rep_core.specs.Store.{last_number}
use Rattle.txn_core.specs.Doing.{Fixed}
use Rattle.run_core.specs.Worlds.{Stepped, World, audit_of, step}
use Rattle.run_core.specs.declared.event.Event.TheVariants.{Step}
use Rattle.suite_play.specs.declared.command.Command.{Command}
use Rattle.suite_play.specs.declared.command.Command.TheVariants.{Event, Steps, Run, Audit}
use Rattle.suite_play.specs.Texts.{audit_lines, outcome_text}

-- what a line prints, and the world after it
pub record Printed : Type 0 where
  pub text : List ℕ
  pub world : World

-- an event prints the line of the job that ended in it, if one did
abbrev pub of_event : Stepped → Printed
of_event once = record { text = outcome_text once.done.outcome; world = once.world }

-- one thing after another
abbrev pub before : Printed → (World → Printed) → Printed
before first later = record { text = first.text ++ (later first.world).text; world = (later first.world).world }

-- so many steps of an agent; once it has no job they change nothing
unfoldable pub steps : Fixed → World → ℕ → ℕ → Printed
steps fixed world agent zero = record { text = []; world = world }
steps fixed world agent (suc more) = before (of_event (step fixed world (Step agent))) (λ next. steps fixed next agent more)

-- Steps until an agent has no job: as many as a count of steps can tell, which no job comes to.
abbrev pub endless : ℕ
endless = last_number

abbrev pub played : Fixed → World → Command → Printed
played fixed world (Event event) = of_event (step fixed world event)
played fixed world (Steps agent count) = steps fixed world agent count
played fixed world (Run agent) = steps fixed world agent endless
played fixed world (Audit server) = record { text = audit_lines server (audit_of world server); world = world }

-- what the lines of a script print, one after the other
abbrev pub all_lines : Fixed → World → List Command → List ℕ
all_lines fixed world [] = []
all_lines fixed world (command ∷ later) = (played fixed world command).text ++ all_lines fixed (played fixed world command).world later
