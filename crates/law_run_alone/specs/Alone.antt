-- Runs in which jobs go one at a time.
use Rattle.std.specs.Prelude.{ℕ, Bool, true, ◌&&◌, ◌||◌, not, is_some, option_map, List, [], ◌∷◌, Option, None}
use Rattle.std.specs.List.{list_all, cons_option}
use Rattle.suite_prefix.specs.SettingsRules.{Opening}
use Rattle.txn_core.specs.declared.job.Job.{Job}
use Rattle.txn_core.specs.Agents.{fixed_of, is_idle}
use Rattle.run_core.specs.declared.event.Event.{Event}
use Rattle.run_core.specs.declared.event.Event.TheVariants.{Begin}
use Rattle.run_core.specs.Worlds.{Actor, World, actor_at, opening, step}
use Rattle.law_runs.specs.Numbers.{begins_now}

-- every agent is idle
abbrev pub all_idle : World → Bool
all_idle world = list_all (λ (actor : Actor). is_idle actor.agent.doing) world.agents

-- the job that an event begins, with its number, if it begins one
abbrev pub begins_job : Opening → World → Event → Option (ℕ × Job)
begins_job given world (Begin number job) = option_map (λ t. (t, job)) (begins_now (fixed_of given) number job (actor_at world number))
begins_job given world event = None

-- all jobs that were begun, with their numbers, in their order
abbrev pub jobs_from : Opening → World → List Event → List (ℕ × Job)
jobs_from given world [] = []
jobs_from given world (event ∷ events) = cons_option (begins_job given world event) (jobs_from given (step (fixed_of given) world event).world events)

abbrev pub jobs_of : Opening → List Event → List (ℕ × Job)
jobs_of given events = jobs_from given (opening given) events

-- where an event begins a job, every agent is idle
abbrev pub begins_alone : Opening → World → Event → Bool
begins_alone given world event = not (is_some (begins_job given world event)) || all_idle world

abbrev pub one_at_a_time_from : Opening → World → List Event → Bool
one_at_a_time_from given world [] = true
one_at_a_time_from given world (event ∷ events) = begins_alone given world event && one_at_a_time_from given (step (fixed_of given) world event).world events

-- a run in which a job begins only when every agent is idle; servers crash and return, and requests are not served, anywhere
abbrev pub one_at_a_time : Opening → List Event → Bool
one_at_a_time given events = one_at_a_time_from given (opening given) events
