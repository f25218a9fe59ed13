-- What agents keep to, as far as one suite goes: at each event of a run, what a server is asked, and what an agent does by itself.
use Rattle.std.specs.Prelude.{ℕ, List, [], ◌∷◌, Option, Some, None}
use Rattle.suite_prefix.specs.SettingsRules.{Opening}
use Rattle.rep_core.specs.declared.lock.Lock.{Lock}
use Rattle.rep_core.specs.declared.request.Request.{Request}
use Rattle.rep_core.specs.declared.stamped.Lack.TheVariants as lack
use Rattle.rep_core.specs.State.{State}
use Rattle.txn_core.specs.declared.response.Response.{Response}
use Rattle.txn_core.specs.declared.response.Response.TheVariants.{Replied, Lacked}
use Rattle.txn_core.specs.Agents.{fixed_of, next_of}
use Rattle.run_core.specs.declared.event.Event.{Event}
use Rattle.run_core.specs.declared.event.Event.TheVariants.{Begin, Step, Crash, Return, Forget, Lack}
use Rattle.run_core.specs.declared.done.Served.{Served}
use Rattle.run_core.specs.Worlds as worlds
use Rattle.run_core.specs.Worlds.{Actor, server_at, actor_at, serve, step}
use Rattle.law_suite_machine.specs.Machine.{World, begun}
use Rattle.law_suite_machine.specs.Events.{run}
use Rattle.law_suite_machine.specs.Conditions.{Obeys}
use Rattle.law_server_moves.specs.Agents.{AgentSide}
use Rattle.law_server_moves.specs.Laws.{beginning}
use Rattle.law_run_machine.specs.Deciding.{decision_by}
use Rattle.law_run_machine.specs.Machines.{home_in, exchanged_events, response_events, begin_events, moved}

-- its request was served: it was one that it may make, and after the reply it does what it may
pub record AskedWell (given : Opening) (z : ℕ) (w : World) (actor : Actor) (locks : List Lock) (what : Served) : Type 0 where
  pub asks : AgentSide (beginning z given) z (home_in given) (decision_by z w actor.agent.doing) what.server locks w what.request.value
  pub does : Obeys (beginning z given) (run (beginning z given) w (exchanged_events given z w actor.agent.doing what)) (response_events given z actor (Replied what.reply.value))

-- what it does by itself once it was told that its request was not served
abbrev pub DoesWell : Opening → ℕ → World → Actor → Response → Type 0
DoesWell given z w actor response = Obeys (beginning z given) w (response_events given z actor response)

abbrev pub AnsweredWell : Opening → ℕ → World → Actor → State → Option Served → Type 0
AnsweredWell given z w actor st (Some what) = AskedWell given z w actor st.locks what
AnsweredWell given z w actor st None = DoesWell given z w actor (Lacked lack.Full)

abbrev pub AsksAtWell : Opening → ℕ → World → Actor → ℕ × Request → Option State → Type 0
AsksAtWell given z w actor asked (Some st) = AnsweredWell given z w actor st (serve asked.0 st (record { stamp = actor.stamp; value = asked.1 }))
AsksAtWell given z w actor asked None = Unit {0}

abbrev pub AsksWell : Opening → ℕ → World → worlds.World → Actor → Option (ℕ × Request) → Type 0
AsksWell given z w world actor (Some asked) = AsksAtWell given z w actor asked (server_at world asked.0)
AsksWell given z w world actor None = Unit {0}

abbrev pub StepsWell : Opening → ℕ → World → worlds.World → Option Actor → Type 0
StepsWell given z w world (Some actor) = AsksWell given z w world actor (next_of (fixed_of given) actor.agent)
StepsWell given z w world None = Unit {0}

abbrev pub LacksForWell : Opening → ℕ → World → Actor → Response → Option (ℕ × Request) → Type 0
LacksForWell given z w actor response (Some asked) = DoesWell given z w actor response
LacksForWell given z w actor response None = Unit {0}

abbrev pub LacksWell : Opening → ℕ → World → Response → Option Actor → Type 0
LacksWell given z w response (Some actor) = LacksForWell given z w actor response (next_of (fixed_of given) actor.agent)
LacksWell given z w response None = Unit {0}

-- one event; what is forgotten, and the operator, owe nothing
abbrev pub KeepsSide : Opening → ℕ → World → worlds.World → Event → Type 0
KeepsSide given z w world (Begin number job) = Obeys (beginning z given) w (begin_events given z job (actor_at world number))
KeepsSide given z w world (Step number) = StepsWell given z w world (actor_at world number)
KeepsSide given z w world (Crash server) = Unit {0}
KeepsSide given z w world (Return server) = Unit {0}
KeepsSide given z w world (Forget number site) = Unit {0}
KeepsSide given z w world (Lack number why) = LacksWell given z w (Lacked why) (actor_at world number)

-- each event, one after the other
abbrev pub KeepSides : Opening → ℕ → World → worlds.World → List Event → Type 0
KeepSides given z w world [] = Unit {0}
KeepSides given z w world (event ∷ events) = KeepsSide given z w world event × KeepSides given z (moved given z w world event) (step (fixed_of given) world event).world events

-- in a run
abbrev pub AgentsKeepSides : Opening → ℕ → List Event → Type 0
AgentsKeepSides given z events = KeepSides given z (begun (beginning z given)) (worlds.opening given) events
