-- Servers and agents together, and what an event makes of them.
use Rattle.std.specs.Prelude.{ℕ, zero, suc, ◌+◌, ◌-◌, min, Bool, true, if◌then◌else◌, List, [], ◌∷◌, slice_get, slice_set, Option, Some, None}
use Rattle.suite_prefix.specs.declared.forms.Form.{Form}
use Rattle.suite_prefix.specs.SettingsRules.{Opening}
use Rattle.file_ops.specs.declared.audit.AuditItem.{AuditItem}
use Rattle.rep_core.specs.declared.request.Request.{Request}
use Rattle.rep_core.specs.declared.request.Request.TheVariants as request
use Rattle.rep_core.specs.declared.stamped.Stamped.{Stamped}
use Rattle.rep_core.specs.declared.stamped.Lack.TheVariants as lack
use Rattle.rep_core.specs.Store.{form_of, last_number}
use Rattle.rep_core.specs.State as state
use Rattle.rep_core.specs.State.{State}
use Rattle.rep_core.specs.Serving.{answer_of, served, is_full}
use Rattle.txn_core.specs.declared.ending.Ending.{Ending}
use Rattle.txn_core.specs.declared.response.Response.{Response}
use Rattle.txn_core.specs.declared.response.Response.TheVariants.{Replied, Lacked}
use Rattle.txn_core.specs.Doing.{Fixed}
use Rattle.txn_core.specs.Agents as agent
use Rattle.txn_core.specs.Agents.{Agent, Taken, is_idle, next_of, take, begin, forget}
use Rattle.run_core.specs.declared.event.Event.{Event}
use Rattle.run_core.specs.declared.event.Event.TheVariants.{Begin, Step, Crash, Return, Forget, Lack}
use Rattle.run_core.specs.declared.done.Served.{Served}
use Rattle.run_core.specs.declared.done.EndedJob.{EndedJob}
use Rattle.run_core.specs.declared.done.Done.{Done}

-- an agent in a world: its state, the last stamp that it was told, and how many steps its job has taken
pub record Actor : Type 0 where
  pub agent : Agent
  pub stamp : ℕ
  pub steps : ℕ

-- the servers and the agents, each at the place of its number
pub record World : Type 0 where
  pub servers : List State
  pub agents : List Actor

abbrev pub server_at : World → ℕ → Option State
server_at world server = slice_get world.servers server

abbrev pub actor_at : World → ℕ → Option Actor
actor_at world agent = slice_get world.agents agent

abbrev pub with_server : ℕ → State → World → World
with_server server st world = record world { servers = slice_set world.servers server st }

abbrev pub with_actor : ℕ → Actor → World → World
with_actor agent actor world = record world { agents = slice_set world.agents agent actor }

-- ---- the opening

-- so many servers, numbered from some number on
abbrev pub servers_from : Opening → ℕ → ℕ → List State
servers_from given start zero = []
servers_from given start (suc count) = state.opening start given ∷ servers_from given (start + 1) count

abbrev pub actors_from : ℕ → ℕ → List Actor
actors_from start zero = []
actors_from start (suc count) = record { agent = agent.opening start; stamp = 0; steps = 0 } ∷ actors_from (start + 1) count

abbrev pub opening : Opening → World
opening given = record { servers = servers_from given 0 given.servers; agents = actors_from 0 given.agents }

-- ---- what is asked of a world

-- whether an agent has no job; one that is not there has none
abbrev pub has_no_job : Option Actor → Bool
has_no_job (Some actor) = is_idle actor.agent.doing
has_no_job None = true

-- the denials that a server recorded; one that is not there recorded none
abbrev pub recorded_by : Option State → List AuditItem
recorded_by (Some st) = st.audit
recorded_by None = []

abbrev pub audit_of : World → ℕ → List AuditItem
audit_of world server = recorded_by (server_at world server)

-- the form that a server's copy of a suite is written in; one that is not there has none
abbrev pub form_at : Option State → ℕ → Option Form
form_at (Some st) suite = form_of st.store suite
form_at None suite = None

abbrev pub form_in : World → ℕ → ℕ → Option Form
form_in world server suite = form_at (server_at world server) suite

-- ---- what comes of an event

-- the world after it, and what was done
pub record Stepped : Type 0 where
  pub world : World
  pub done : Done

-- a world in which nothing was served and no job ended
abbrev pub quiet : World → Stepped
quiet world = record { world = world; done = record { served = None; outcome = None } }

-- what a server does with a request, if it is not full
abbrev pub serve : ℕ → State → Stamped Request → Option Served
serve server st asked = if is_full st asked then None else Some (record { server = server; request = asked; reply = answer_of st asked })

abbrev pub after_serving : State → Served → World → World
after_serving st done world = with_server done.server (served st done.request) world

-- ---- an agent is told something

-- one step more; the count stays at the last number of eight bytes, which no job reaches
abbrev pub one_more : ℕ → ℕ
one_more steps = min (steps + 1) last_number

abbrev pub steps_after : ℕ → Option Ending → ℕ
steps_after steps None = one_more steps
steps_after steps (Some ending) = 0

abbrev pub outcome_of : ℕ → Actor → Option Ending → Option EndedJob
outcome_of number actor None = None
outcome_of number actor (Some ending) =
    Some (record { agent = number; count = actor.agent.count - 1; steps = one_more actor.steps; ending = ending })

-- the agent once it took a response; it has this stamp from then on
abbrev pub moved : Actor → ℕ → Taken → Actor
moved actor stamp taken = record { agent = taken.agent; stamp = stamp; steps = steps_after actor.steps taken.ending }

abbrev pub took : World → ℕ → Actor → ℕ → Taken → Option Served → Stepped
took world number actor stamp taken what = record {
  world = with_actor number (moved actor stamp taken) world;
  done = record { served = what; outcome = outcome_of number actor taken.ending };
}

-- its request was not served
abbrev pub lacked : Fixed → World → ℕ → Actor → Response → Stepped
lacked fixed world number actor response = took world number actor actor.stamp (take fixed actor.agent response) None

-- its request was served, or the server is full
abbrev pub answered : Fixed → World → ℕ → Actor → State → Option Served → Stepped
answered fixed world number actor st (Some what) =
    took (after_serving st what world) number actor what.reply.stamp (take fixed actor.agent (Replied what.reply.value)) (Some what)
answered fixed world number actor st None = lacked fixed world number actor (Lacked lack.Full)

-- ---- the events

-- the agent of this number becomes another, if there is one
abbrev pub becomes : World → ℕ → (Agent → Agent) → Option Actor → Stepped
becomes world number change (Some actor) = quiet (with_actor number (record actor { agent = change actor.agent }) world)
becomes world number change None = quiet world

-- the agent asks a server; it sends its last stamp
abbrev pub asks_at : Fixed → World → ℕ → Actor → ℕ × Request → Option State → Stepped
asks_at fixed world number actor asked (Some st) =
    answered fixed world number actor st (serve asked.0 st (record { stamp = actor.stamp; value = asked.1 }))
asks_at fixed world number actor asked None = quiet world

abbrev pub asks : Fixed → World → ℕ → Actor → Option (ℕ × Request) → Stepped
asks fixed world number actor (Some asked) = asks_at fixed world number actor asked (server_at world asked.0)
asks fixed world number actor None = quiet world

abbrev pub steps_once : Fixed → World → ℕ → Option Actor → Stepped
steps_once fixed world number (Some actor) = asks fixed world number actor (next_of fixed actor.agent)
steps_once fixed world number None = quiet world

-- the agent is told that its request is not served
abbrev pub lacks_for : Fixed → World → ℕ → Actor → Response → Option (ℕ × Request) → Stepped
lacks_for fixed world number actor response (Some asked) = lacked fixed world number actor response
lacks_for fixed world number actor response None = quiet world

abbrev pub lacks : Fixed → World → ℕ → Response → Option Actor → Stepped
lacks fixed world number response (Some actor) = lacks_for fixed world number actor response (next_of fixed actor.agent)
lacks fixed world number response None = quiet world

-- the operator asks a server, with stamp 0
abbrev pub operated : World → State → Option Served → Stepped
operated world st (Some what) = record { world = after_serving st what world; done = record { served = Some what; outcome = None } }
operated world st None = quiet world

abbrev pub operates : World → ℕ → Request → Option State → Stepped
operates world server asked (Some st) = operated world st (serve server st (record { stamp = 0; value = asked }))
operates world server asked None = quiet world

-- one event; where it has no sense nothing comes of it
abbrev pub step : Fixed → World → Event → Stepped
step fixed world (Begin number job) = becomes world number (λ agent. begin fixed agent job) (actor_at world number)
step fixed world (Step number) = steps_once fixed world number (actor_at world number)
step fixed world (Crash server) = operates world server request.Crash (server_at world server)
step fixed world (Return server) = operates world server request.Return (server_at world server)
step fixed world (Forget number site) = becomes world number (λ agent. forget agent site) (actor_at world number)
step fixed world (Lack number why) = lacks fixed world number (Lacked why) (actor_at world number)
