-- What agents of a world ask next.
use Rattle.std.specs.Prelude.{ℕ, Option, Some, None, option_map}
use Rattle.rep_core.specs.declared.request.Request.{Request}
use Rattle.txn_core.specs.Doing.{Fixed}
use Rattle.txn_core.specs.Agents.{next_of}
use Rattle.run_core.specs.Worlds.{Actor, World, actor_at}

-- what an agent asks next, and of which server: nothing, where it is not there
abbrev pub asked_by : Fixed → Option Actor → Option (ℕ × Request)
asked_by fixed (Some actor) = next_of fixed actor.agent
asked_by fixed None = None

-- the server of which it asks
abbrev pub asked_at : Fixed → World → ℕ → Option ℕ
asked_at fixed world agent = option_map (λ asked. asked.0) (asked_by fixed (actor_at world agent))
