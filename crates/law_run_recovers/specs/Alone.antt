-- Events in which one agent alone reaches servers. Others may sit in the middle of their jobs.
use Rattle.std.specs.Prelude.{◌&&◌, ◌+◌, ◌==◌, ◌∷◌, Bool, List, [], false, if◌then◌else◌, is_some, not, true, ℕ}
use Rattle.suite_prefix.specs.SettingsRules.{Opening}
use Rattle.txn_core.specs.Agents.{fixed_of}
use Rattle.run_core.specs.Worlds.{World, actor_at, has_no_job, step}
use Rattle.run_core.specs.declared.event.Event.{Event}
use Rattle.run_core.specs.declared.event.Event.TheVariants.{Begin, Crash, Forget, Lack, Return, Step}
use Rattle.law_run_alone.specs.Alone.{begins_job}

-- What hinders an agent: it begins another job, or forgets; as it has a job, a step of it is not served, or it is told that it is not served; another agent
-- that has a job takes a step; or a server is told to crash or to restart. That others begin, forget, or are told that they are not served, hinders
-- nobody, nor does an event of an agent without a job.
abbrev pub hinders : Opening → ℕ → World → Event → Bool
hinders given agent world (Begin other job) = (other == agent) && is_some (begins_job given world (Begin other job))
hinders given agent world (Step other) =
    not (has_no_job (actor_at world other)) && not ((other == agent) && is_some (step (fixed_of given) world (Step other)).done.served)
hinders given agent world (Crash server) = true
hinders given agent world (Return server) = true
hinders given agent world (Forget other site) = other == agent
hinders given agent world (Lack other why) = (other == agent) && not (has_no_job (actor_at world agent))

-- none of these events does
abbrev pub unhindered_from : Opening → ℕ → World → List Event → Bool
unhindered_from given agent world [] = true
unhindered_from given agent world (event ∷ events) = not (hinders given agent world event) && unhindered_from given agent (step (fixed_of given) world event).world events

-- how many steps of the agent are among these events
abbrev pub its_step : ℕ → Event → Bool
its_step agent (Step other) = other == agent
its_step agent other = false

abbrev pub own_steps : ℕ → List Event → ℕ
own_steps agent [] = 0
own_steps agent (event ∷ events) = (if its_step agent event then 1 else 0) + own_steps agent events
