-- When an event may need memory. Everywhere else it is played, however little memory there is.
use Rattle.std.specs.Prelude.{ℕ, Bool, false, ◌&&◌, ◌||◌, not, is_some, List, take, slice_get, Option, Some, None}
use Rattle.std.specs.List.{last_or}
use Rattle.rep_core.specs.declared.request.Request.{Request}
use Rattle.rep_core.specs.declared.stamped.Stamped.{Stamped}
use Rattle.rep_core.specs.State.{State}
use Rattle.rep_core.specs.Serving.{answer_of, is_full, takes_no_memory, is_bare}
use Rattle.rep_core.specs.Wanting.{by_request}
use Rattle.txn_core.specs.declared.job.Job.{Job}
use Rattle.txn_core.specs.Doing.{Fixed}
use Rattle.txn_core.specs.Agents.{next_of}
use Rattle.txn_core.specs.Wanting.{by_job, by_reply}
use Rattle.run_core.specs.declared.done.Done.{Done}
use Rattle.run_core.specs.declared.event.Event.{Event}
use Rattle.run_core.specs.declared.event.Event.TheVariants.{Begin, Step, Crash, Return, Forget, Lack}
use Rattle.run_core.specs.Runs.{after, dones}
use Rattle.run_core.specs.Worlds.{Actor, World, actor_at, server_at}

-- ---- one event

-- only a transaction that begins
abbrev pub by_begin : Fixed → Job → Option Actor → Bool
by_begin fixed job (Some actor) = by_job fixed actor.agent job
by_begin fixed job None = false

-- a server that is not full: what it keeps or tells, and what the agent keeps of that
abbrev pub by_serving : State → Stamped Request → Bool
by_serving st asked = not (takes_no_memory asked.value) && not (is_bare (answer_of st asked).value)

abbrev pub by_exchange : Stamped Request → Option State → Bool
by_exchange asked (Some st) = not (is_full st asked) && (by_serving st asked || by_reply asked.value (answer_of st asked).value)
by_exchange asked None = false

-- a step: what the agent asks, and what comes of it
abbrev pub by_asking : World → Actor → Option (ℕ × Request) → Bool
by_asking world actor (Some asked) = by_request asked.1 || by_exchange (record { stamp = actor.stamp; value = asked.1 }) (server_at world asked.0)
by_asking world actor None = false

abbrev pub by_step : Fixed → World → Option Actor → Bool
by_step fixed world (Some actor) = by_asking world actor (next_of fixed actor.agent)
by_step fixed world None = false

abbrev pub by_event : Fixed → World → Event → Bool
by_event fixed world (Begin number job) = by_begin fixed job (actor_at world number)
by_event fixed world (Step number) = by_step fixed world (actor_at world number)
by_event fixed world (Crash server) = false
by_event fixed world (Return server) = false
by_event fixed world (Forget number site) = false
by_event fixed world (Lack number why) = false

-- ---- events one after the other

abbrev pub by_next : Fixed → World → Option Event → Bool
by_next fixed world (Some event) = by_event fixed world event
by_next fixed world None = false

abbrev pub by_outcome : Option Done → Bool
by_outcome (Some done) = is_some done.outcome
by_outcome None = false

-- after so many of them: the next one needs memory, or the last one ended a job, whose outcome is kept
abbrev pub by_stop : Fixed → World → List Event → ℕ → Bool
by_stop fixed world events done =
    by_next fixed (after fixed world (take done events)) (slice_get events done)
    || by_outcome (last_or None (dones fixed world (take done events)))
