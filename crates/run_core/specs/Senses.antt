-- Which events have sense.
use Rattle.std.specs.Prelude.{◌≡◌, ℕ, ◌<◌, nat_lt, Bool, true, false, is_some, List, [], ◌∷◌, Contains, Option, Some, None}
use Rattle.rep_core.specs.declared.request.Request.{Request}
use Rattle.weak_cache.specs.Entries.{Entry}
use Rattle.txn_core.specs.Doing.{Fixed}
use Rattle.txn_core.specs.declared.job.Job.{Job}
use Rattle.txn_core.specs.Agents.{begins, max_sites}
use Rattle.run_core.specs.declared.event.Event.{Event}
use Rattle.run_core.specs.declared.event.Event.TheVariants.{Begin, Step, Crash, Return, Forget, Lack}
use Rattle.run_core.specs.Asking.{asked_by}
use Rattle.run_core.specs.Worlds.{Actor, World, actor_at, server_at, step, quiet}

abbrev pub can_begin : Fixed → Job → Option Actor → Bool
can_begin fixed job (Some actor) = begins fixed actor.agent job
can_begin fixed job None = false

abbrev pub asks_one : World → Option (ℕ × Request) → Bool
asks_one world (Some asked) = is_some (server_at world asked.0)
asks_one world None = false

abbrev pub can_forget : ℕ → Option Actor → Bool
can_forget site (Some actor) = nat_lt site max_sites
can_forget site None = false

-- Whether an event has sense: an agent that is there and idle begins a job that it may begin; one that asks a server that is there takes a step;
-- one that asks is told that it is not served; an agent that is there forgets a site that is there; a server that is there, and whose stamps are
-- not used up, crashes or restarts.
abbrev pub has_sense : Fixed → World → Event → Bool
has_sense fixed world (Begin agent job) = can_begin fixed job (actor_at world agent)
has_sense fixed world (Step agent) = asks_one world (asked_by fixed (actor_at world agent))
has_sense fixed world (Lack agent why) = is_some (asked_by fixed (actor_at world agent))
has_sense fixed world (Crash server) = is_some (step fixed world (Crash server)).done.served
has_sense fixed world (Return server) = is_some (step fixed world (Return server)).done.served
has_sense fixed world (Forget agent site) = can_forget site (actor_at world agent)

-- each event has sense where it comes
abbrev pub HaveSense : Fixed → World → List Event → Type 0
HaveSense fixed world [] = Unit {0}
HaveSense fixed world (event ∷ events) = (has_sense fixed world event ≡ true) × HaveSense fixed (step fixed world event).world events

-- ---- what comes of an event without sense

-- agents keep nothing for sites that are not there
abbrev pub SitesAreThere : World → Type 0
SitesAreThere world = (agent : ℕ) (actor : Actor) (entry : Entry) → actor_at world agent ≡ Some actor → Contains actor.agent.cache entry → entry.site < max_sites

-- nothing: nothing is served, no job ends, and the world stays as it is
abbrev pub NothingComes : Type 0
NothingComes = (fixed : Fixed) (world : World) (event : Event) → SitesAreThere world → has_sense fixed world event ≡ false → step fixed world event ≡ quiet world
