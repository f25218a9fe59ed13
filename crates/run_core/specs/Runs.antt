-- A run: events one after the other, from the opening on.
use Rattle.std.specs.Prelude.{List, [], ◌∷◌}
use Rattle.std.specs.List.{filter_map}
use Rattle.suite_prefix.specs.SettingsRules.{Opening}
use Rattle.txn_core.specs.Doing.{Fixed}
use Rattle.txn_core.specs.Agents.{fixed_of}
use Rattle.run_core.specs.declared.event.Event.{Event}
use Rattle.run_core.specs.declared.done.EndedJob.{EndedJob}
use Rattle.run_core.specs.declared.done.Done.{Done}
use Rattle.run_core.specs.Worlds.{World, opening, step}

-- a world after these events
abbrev pub after : Fixed → World → List Event → World
after fixed world [] = world
after fixed world (event ∷ events) = after fixed (step fixed world event).world events

-- what was done in each of them
abbrev pub dones : Fixed → World → List Event → List Done
dones fixed world [] = []
dones fixed world (event ∷ events) = (step fixed world event).done ∷ dones fixed (step fixed world event).world events

-- the jobs that ended, in their order
abbrev pub outcomes : List Done → List EndedJob
outcomes done = filter_map (λ (one : Done). one.outcome) done

-- the world of a run, and what was done in it
abbrev pub run : Opening → List Event → World
run given events = after (fixed_of given) (opening given) events

abbrev pub done_in : Opening → List Event → List Done
done_in given events = dones (fixed_of given) (opening given) events
