-- The laws of this crate.
use Rattle.std.specs.Prelude.{◌≡◌, ℕ, ◌≤◌, true, false, List, Some}
use Rattle.suite_prefix.specs.SettingsRules.{Opening, max_agents}
use Rattle.vote_core.specs.Validity.{IsValid, max_servers}
use Rattle.rep_core.specs.Consistency.{IsConsistent}
use Rattle.txn_core.specs.declared.job.Job.{Job}
use Rattle.txn_core.specs.Doing.{Fixed}
use Rattle.txn_core.specs.Agents as agents
use Rattle.txn_core.specs.Agents.{Agent, fixed_of, begin, is_idle, after_all}
use Rattle.run_core.specs.Worlds.{Actor, actor_at}
use Rattle.run_core.specs.declared.event.Event.{Event}
use Rattle.run_core.specs.Runs as runs
use Rattle.law_suite_machine.specs.Registers.{IsBeginning}
use Rattle.law_suite_machine.specs.Machine.{begun}
use Rattle.law_suite_machine.specs.Events.{run}
use Rattle.law_suite_machine.specs.Conditions.{Obeys}
use Rattle.law_server_moves.specs.Views.{Shows}
use Rattle.law_server_moves.specs.Laws.{beginning}
use Rattle.law_run_machine.specs.Machines.{servers_of, home_in, machine_of, history_of}
use Rattle.law_run_machine.specs.Sides.{AgentsKeepSides}
use Rattle.law_run_machine.specs.Owed.{AgentsOwe}

-- the suite begins as one does, all that happens to it may happen, the machine is what that leaves, and it shows the servers
pub record Follows (given : Opening) (z : ℕ) (events : List Event) : Type 0 where
  pub begins : IsBeginning (beginning z given)
  pub obeys : Obeys (beginning z given) (begun (beginning z given)) (history_of given z events)
  pub is : machine_of given z events ≡ run (beginning z given) (begun (beginning z given)) (history_of given z events)
  pub shows : Shows z (home_in given) (servers_of given (runs.run given events)) (machine_of given z events)

-- in every run in which agents keep to their side, the machine of each suite follows the world
abbrev pub MachinesFollow : Type 0
MachinesFollow = (given : Opening) (z : ℕ) (events : List Event) → IsValid given.c0 → AgentsKeepSides given z events → Follows given z events

-- every server of a run is consistent
abbrev pub ServersAreConsistent : Type 0
ServersAreConsistent = (given : Opening) (events : List Event) (i : ℕ) → IsConsistent (servers_of given (runs.run given events) i)

-- Agents keep to their side in every run, but for what is in `Owed`: each polls a server for a suite once, fixes what it is to write once and sends that,
-- prepares at a server once, tells servers how its transaction ended and nothing else, and gives up only what was not decided; and its transactions are
-- numbered apart from all others.
abbrev pub SidesAreKept : Type 0
SidesAreKept = (given : Opening) (z : ℕ) (events : List Event) → IsValid given.c0 → given.agents ≤ max_agents → given.servers ≤ max_servers → AgentsOwe given z events → AgentsKeepSides given z events

-- an agent that began a job when it was idle, and was told this since
pub record IsOfAJob (fixed : Fixed) (agent : Agent) : Type 0 where
  pub before : Agent
  pub job : Job
  pub told : List agents.Event
  pub idle : is_idle before.doing ≡ true
  pub is : agent ≡ after_all fixed (begin fixed before job) told

-- every agent of a run that is not idle is one of a job: so what holds of every agent that began a job, whatever it is told, holds of it
abbrev pub AgentsAreOfJobs : Type 0
AgentsAreOfJobs = (given : Opening) (events : List Event) (number : ℕ) (actor : Actor) → actor_at (runs.run given events) number ≡ Some actor → is_idle actor.agent.doing ≡ false → IsOfAJob (fixed_of given) actor.agent
