-- The machine of one suite in a run: what each event of a world is to it.
use Rattle.std.specs.Prelude.{ℕ, List, [], ◌∷◌, ◌++◌, unwrap_or, Option, Some, None}
use Rattle.suite_prefix.specs.SettingsRules.{Opening}
use Rattle.rep_core.specs.declared.request.Request.{Request}
use Rattle.rep_core.specs.declared.request.Request.TheVariants as request
use Rattle.rep_core.specs.declared.stamped.Lack.TheVariants as lack
use Rattle.rep_core.specs.State as state
use Rattle.rep_core.specs.State.{State}
use Rattle.txn_core.specs.declared.response.Response.{Response}
use Rattle.txn_core.specs.declared.response.Response.TheVariants.{Replied, Lacked}
use Rattle.txn_core.specs.declared.job.Job.{Job}
use Rattle.txn_core.specs.Doing.{Doing, home_of}
use Rattle.txn_core.specs.Agents.{fixed_of, next_of, take, begin}
use Rattle.run_core.specs.declared.event.Event.{Event}
use Rattle.run_core.specs.declared.event.Event.TheVariants.{Begin, Step, Crash, Return, Forget, Lack}
use Rattle.run_core.specs.declared.done.Served.{Served}
use Rattle.run_core.specs.Worlds as worlds
use Rattle.run_core.specs.Worlds.{Actor, server_at, actor_at, serve, step}
use Rattle.law_suite_machine.specs.Machine.{World, begun}
use Rattle.law_suite_machine.specs.Events as machine
use Rattle.law_suite_machine.specs.Events.{run}
use Rattle.law_server_moves.specs.Moves.{moves, hears}
use Rattle.law_server_moves.specs.Laws.{beginning}
use Rattle.law_run_machine.specs.Deciding.{decision_by, begun_events, own_events}

-- the servers of a world, by their numbers; those that are not there stay as they would open
abbrev pub servers_of : Opening → worlds.World → ℕ → State
servers_of given world i = unwrap_or (server_at world i) (state.opening i given)

-- the home of a transaction
abbrev pub home_in : Opening → ℕ → ℕ
home_in given t = home_of (fixed_of given).service t

-- ---- the events

-- what was served to an agent that does this, or to the operator
abbrev pub served_events : Opening → ℕ → World → Option Doing → Served → List machine.Event
served_events given z w doing what = moves z (home_in given) (decision_by z w doing) what.server w what.request.value what.reply.value

-- what was served to an agent, and what it heard of its lock by the reply
abbrev pub exchanged_events : Opening → ℕ → World → Option Doing → Served → List machine.Event
exchanged_events given z w doing what = served_events given z w doing what ++ hears z what.server what.request.value what.reply.value

-- what an agent does by itself once it took a response
abbrev pub response_events : Opening → ℕ → Actor → Response → List machine.Event
response_events given z actor response = own_events z actor.agent.doing (take (fixed_of given) actor.agent response)

-- what it does by itself where it begins a job
abbrev pub begin_events : Opening → ℕ → Job → Option Actor → List machine.Event
begin_events given z job (Some actor) = begun_events z actor.agent.doing (begin (fixed_of given) actor.agent job).doing
begin_events given z job None = []

-- the request was served, or the server is full
abbrev pub answered_events : Opening → ℕ → World → Actor → Option Served → List machine.Event
answered_events given z w actor (Some what) = exchanged_events given z w actor.agent.doing what ++ response_events given z actor (Replied what.reply.value)
answered_events given z w actor None = response_events given z actor (Lacked lack.Full)

abbrev pub asked_at_events : Opening → ℕ → World → Actor → ℕ × Request → Option State → List machine.Event
asked_at_events given z w actor asked (Some st) = answered_events given z w actor (serve asked.0 st (record { stamp = actor.stamp; value = asked.1 }))
asked_at_events given z w actor asked None = []

abbrev pub asked_events : Opening → ℕ → World → worlds.World → Actor → Option (ℕ × Request) → List machine.Event
asked_events given z w world actor (Some asked) = asked_at_events given z w actor asked (server_at world asked.0)
asked_events given z w world actor None = []

abbrev pub step_events : Opening → ℕ → World → worlds.World → Option Actor → List machine.Event
step_events given z w world (Some actor) = asked_events given z w world actor (next_of (fixed_of given) actor.agent)
step_events given z w world None = []

abbrev pub lacks_for_events : Opening → ℕ → Actor → Response → Option (ℕ × Request) → List machine.Event
lacks_for_events given z actor response (Some asked) = response_events given z actor response
lacks_for_events given z actor response None = []

abbrev pub lack_events : Opening → ℕ → Response → Option Actor → List machine.Event
lack_events given z response (Some actor) = lacks_for_events given z actor response (next_of (fixed_of given) actor.agent)
lack_events given z response None = []

abbrev pub operated_events : Opening → ℕ → World → Option Served → List machine.Event
operated_events given z w (Some what) = served_events given z w None what
operated_events given z w None = []

abbrev pub operator_events : Opening → ℕ → World → ℕ → Request → Option State → List machine.Event
operator_events given z w server asked (Some st) = operated_events given z w (serve server st (record { stamp = 0; value = asked }))
operator_events given z w server asked None = []

-- what an event of a world is to the machine of the suite z, which is w so far: what the server does that served a request, and then what the agent
-- hears and does that took the reply
abbrev pub events_of : Opening → ℕ → World → worlds.World → Event → List machine.Event
events_of given z w world (Begin number job) = begin_events given z job (actor_at world number)
events_of given z w world (Step number) = step_events given z w world (actor_at world number)
events_of given z w world (Crash server) = operator_events given z w server request.Crash (server_at world server)
events_of given z w world (Return server) = operator_events given z w server request.Return (server_at world server)
events_of given z w world (Forget number site) = []
events_of given z w world (Lack number why) = lack_events given z (Lacked why) (actor_at world number)

-- ---- the machine

abbrev pub moved : Opening → ℕ → World → worlds.World → Event → World
moved given z w world event = run (beginning z given) w (events_of given z w world event)

-- the machine of the suite after these events of a world
abbrev pub machine_from : Opening → ℕ → World → worlds.World → List Event → World
machine_from given z w world [] = w
machine_from given z w world (event ∷ events) = machine_from given z (moved given z w world event) (step (fixed_of given) world event).world events

-- what happened to it
abbrev pub history_from : Opening → ℕ → World → worlds.World → List Event → List machine.Event
history_from given z w world [] = []
history_from given z w world (event ∷ events) = events_of given z w world event ++ history_from given z (moved given z w world event) (step (fixed_of given) world event).world events

-- in a run
abbrev pub machine_of : Opening → ℕ → List Event → World
machine_of given z events = machine_from given z (begun (beginning z given)) (worlds.opening given) events

abbrev pub history_of : Opening → ℕ → List Event → List machine.Event
history_of given z events = history_from given z (begun (beginning z given)) (worlds.opening given) events
