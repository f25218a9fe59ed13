-- Agents and servers together, for examples: a step is one request of an agent and the taking of its reply.
use Rattle.std.specs.Prelude.{ℕ, zero, suc, ◌+◌, List, [], ◌∷◌, Option, Some, None}
use Rattle.suite_prefix.specs.SettingsRules.{Opening}
use Rattle.rep_core.specs.declared.request.Request.{Request}
use Rattle.rep_core.specs.declared.request.Request.TheVariants as request
use Rattle.rep_core.specs.State as state
use Rattle.rep_core.specs.State.{State}
use Rattle.rep_core.specs.Service.{reply_of, after}
use Rattle.txn_core.specs.declared.ending.Ending.{Ending}
use Rattle.txn_core.specs.declared.job.Job.{Job}
use Rattle.txn_core.specs.declared.response.Response.TheVariants.{Replied}
use Rattle.txn_core.specs.Doing.{Fixed}
use Rattle.txn_core.specs.Agents.{Agent, opening, next_of, take, begin}

-- the servers, all numbered from 0, and one agent, with the steps of its job so far and the endings of its jobs, the last one first
pub record World : Type 0 where
  pub servers : List State
  pub agent : Agent
  pub steps : ℕ
  pub ends : List (ℕ × Ending)

abbrev pub server_at : List State → ℕ → Option State
server_at [] i = None
server_at (st ∷ servers) zero = Some st
server_at (st ∷ servers) (suc i) = server_at servers i

abbrev pub with_server : List State → ℕ → State → List State
with_server [] i new = []
with_server (st ∷ servers) zero new = new ∷ servers
with_server (st ∷ servers) (suc i) new = st ∷ with_server servers i new

abbrev pub ended : World → Agent → Option Ending → World
ended world agent (Some ending) = record world { agent = agent; ends = (world.steps + 1, ending) ∷ world.ends; steps = 0 }
ended world agent None = record world { agent = agent; steps = world.steps + 1 }

abbrev pub serve : Fixed → World → ℕ → Request → Option State → World
serve fixed world server asked (Some st) =
    let taken = take fixed world.agent (Replied (reply_of st asked)) in
    ended (record world { servers = with_server world.servers server (after st asked) }) taken.agent taken.ending
serve fixed world server asked None = world

abbrev pub ask : Fixed → World → Option (ℕ × Request) → World
ask fixed world (Some asked) = serve fixed world asked.0 asked.1 (server_at world.servers asked.0)
ask fixed world None = world

-- so many steps
abbrev pub run : Fixed → World → ℕ → World
run fixed world zero = world
run fixed world (suc more) = run fixed (ask fixed world (next_of fixed world.agent)) more

-- what a server is asked by nobody: to crash, or to restart
abbrev pub disturbed : Request → World → Option State → ℕ → World
disturbed asked world (Some st) server = record world { servers = with_server world.servers server (after st asked) }
disturbed asked world None server = world

abbrev pub crash : World → ℕ → World
crash world server = disturbed request.Crash world (server_at world.servers server) server

abbrev pub restart : World → ℕ → World
restart world server = disturbed request.Return world (server_at world.servers server) server

abbrev pub all_servers : Opening → ℕ → ℕ → List State
all_servers given start zero = []
all_servers given start (suc count) = state.opening start given ∷ all_servers given (start + 1) count

abbrev pub open_world : Opening → World
open_world given = record { servers = all_servers given 0 given.servers; agent = opening 0; steps = 0; ends = [] }

-- a job from its begin on, for so many steps
abbrev pub job : Fixed → World → Job → ℕ → World
job fixed world asked steps = run fixed (record world { agent = begin fixed world.agent asked; steps = 0 }) steps
