-- What one request of an agent to a server leaves of the two.
use Rattle.std.specs.Prelude.{◌≡◌, ℕ, Bool, Option, Some}
use Rattle.rep_core.specs.declared.request.Request.{Request}
use Rattle.rep_core.specs.State.{State}
use Rattle.run_core.specs.declared.done.Done.{Done}
use Rattle.run_core.specs.declared.done.EndedJob.{EndedJob}
use Rattle.run_core.specs.declared.done.Served.{Served}
use Rattle.run_core.specs.Telling.{IsTold}
use Rattle.run_core.specs.Worlds.{World, server_at, with_server, with_actor, serve, answered}
use Rattle.run_core.specs.code.Seats.{Seated}

-- in every world in which this server stands at its place, the step of the agent leaves these two
pub record IsExchange (host host' : State) (seat seat' : Seated) (server number : ℕ) (asked : Request) (done : Done) : Type 0 where
  pub fixed : seat'.fixed ≡ seat.fixed
  pub step : (world : World) → server_at world server ≡ Some host
      → answered seat.fixed world number seat.actor host (serve server host (record { stamp = seat.actor.stamp; value = asked }))
      ≡ record { world = with_actor number seat'.actor (with_server server host' world); done = done }

-- an exchange, and what is told of it
pub record IsExchangeOf (host host' : State) (seat seat' : Seated) (number : ℕ) (asked asked' : Served) (ended ended' : Option EndedJob) (is_served : Bool) : Type 0 where
  pub done : Done
  pub exchange : IsExchange host host' seat seat' asked.server number asked.request.value done
  pub told : IsTold done asked' ended ended' is_served
