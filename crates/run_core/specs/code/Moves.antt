-- What a move of an agent, or of the operator, makes of servers and agents, in whatever service they are.
use Rattle.std.specs.Prelude.{◌≡◌, ℕ, Bool, false, IsTrue, List, slice_get, Option, None}
use Rattle.rep_core.specs.declared.stamped.Lack.{Lack}
use Rattle.rep_core.specs.State.{State}
use Rattle.txn_core.specs.declared.job.Job.{Job}
use Rattle.txn_core.specs.declared.response.Response.TheVariants.{Lacked}
use Rattle.txn_core.specs.Doing.{Fixed}
use Rattle.txn_core.specs.Agents.{begin}
use Rattle.run_core.specs.declared.done.EndedJob.{EndedJob}
use Rattle.run_core.specs.declared.done.Served.{Served}
use Rattle.run_core.specs.declared.operator.Order.{Order}
use Rattle.run_core.specs.Telling.{ComesTo, served_if}
use Rattle.run_core.specs.Wanting.{by_begin, by_step}
use Rattle.run_core.specs.Worlds.{Actor, Stepped, lacks, operates, steps_once}
use Rattle.run_core.specs.code.Orders.{request_of}
use Rattle.run_core.specs.code.Seats.{Seated, AreOf, Becomes, actors_in, changed, world_of}

-- ---- an agent begins a job

abbrev pub IsBegun : List Seated → List Seated → ℕ → Job → Type 0
IsBegun seats seats' number job = Becomes (slice_get seats number) (λ (seat : Seated). changed seat (begin seat.fixed seat.actor.agent job)) number seats seats'

abbrev pub BeginWants : List Seated → ℕ → Job → Type 0
BeginWants seats number job = (fixed : Fixed) → AreOf fixed seats → IsTrue (by_begin fixed job (slice_get (actors_in seats) number))

-- ---- an agent asks a server

abbrev pub step_of : Fixed → List State → List Seated → ℕ → Stepped
step_of fixed servers seats number = steps_once fixed (world_of servers seats) number (slice_get (actors_in seats) number)

-- what was asked is told, with the reply, if it was served, and how a job ended
abbrev pub IsAsked : List State → List State → List Seated → List Seated → ℕ → Served → Option EndedJob → Option EndedJob → Bool → Type 0
IsAsked servers servers' seats seats' number asked ended ended' is_served =
    (fixed : Fixed) → AreOf fixed seats → ComesTo (step_of fixed servers seats number) (world_of servers' seats') asked ended ended' is_served

abbrev pub StepWants : List State → List Seated → ℕ → Type 0
StepWants servers seats number = (fixed : Fixed) → AreOf fixed seats → IsTrue (by_step fixed (world_of servers seats) (slice_get (actors_in seats) number))

-- ---- an agent is told that its request is not served

abbrev pub IsLacked : List Seated → List Seated → ℕ → Lack → Option EndedJob → Option EndedJob → Type 0
IsLacked seats seats' number lack ended ended' =
    (fixed : Fixed) (servers : List State) (asked : Served) → AreOf fixed seats
    → ComesTo (lacks fixed (world_of servers seats) number (Lacked lack) (slice_get (actors_in seats) number)) (world_of servers seats') asked ended ended' false

-- ---- the operator asks a server

abbrev pub IsOperated : List State → List State → ℕ → Order → Served → Bool → Type 0
IsOperated servers servers' server order asked is_served =
    (agents : List Actor)
    → operates (record { servers = servers; agents = agents }) server (request_of order) (slice_get servers server)
    ≡ record { world = record { servers = servers'; agents = agents }; done = record { served = served_if is_served asked; outcome = None } }
