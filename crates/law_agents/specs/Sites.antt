-- The sites of which agents keep something: those that there are.
use Rattle.std.specs.Prelude.{◌≡◌, ◌<◌, true, false, List, Contains}
use Rattle.suite_prefix.specs.SettingsRules.{Opening}
use Rattle.weak_cache.specs.Entries.{Entry}
use Rattle.txn_core.specs.declared.job.Job.{Job}
use Rattle.txn_core.specs.Doing.{Fixed}
use Rattle.txn_core.specs.Agents as agents
use Rattle.txn_core.specs.Agents.{Agent, is_idle, fixed_of, max_sites}
use Rattle.run_core.specs.declared.event.Event.{Event}
use Rattle.run_core.specs.Senses.{has_sense, SitesAreThere}
use Rattle.run_core.specs.Worlds.{step, quiet}
use Rattle.run_core.specs.Runs.{run}
use Rattle.law_agents.specs.Steps.{agent_after}

-- an agent keeps nothing for sites that are not there
abbrev pub KeepsToSites : Agent → Type 0
KeepsToSites agent = (entry : Entry) → Contains agent.cache entry → entry.site < max_sites

-- Such an agent stays so, whatever job it begins and whatever it is told.
abbrev pub AgentsStaySo : Type 0
AgentsStaySo = (fixed : Fixed) (agent : Agent) (job : Job) (events : List agents.Event) → is_idle agent.doing ≡ true → KeepsToSites agent → KeepsToSites (agent_after fixed agent job events)

-- So it is with each agent in every run, from every opening on.
abbrev pub RunsKeepTo : Type 0
RunsKeepTo = (given : Opening) (events : List Event) → SitesAreThere (run given events)

-- So of every run an event without sense changes nothing, be it a forget or another: nothing is served, no job ends, and the world stays as it is.
abbrev pub SenselessChangeNothing : Type 0
SenselessChangeNothing =
    (given : Opening) (events : List Event) (event : Event) → has_sense (fixed_of given) (run given events) event ≡ false
    → step (fixed_of given) (run given events) event ≡ quiet (run given events)

pub record RunsKeepToSites : Type 0 where
  pub agents : AgentsStaySo
  pub runs : RunsKeepTo
  pub senseless : SenselessChangeNothing
