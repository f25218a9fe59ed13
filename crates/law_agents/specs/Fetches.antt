-- Of whom a content is fetched, said of the exchanges alone.
use Rattle.std.specs.Prelude.{◌≡◌, ℕ, true, List, Some}
use Rattle.suite_prefix.specs.declared.copies.Prefix.{Prefix}
use Rattle.rep_core.specs.declared.request.Request.TheVariants as request
use Rattle.txn_core.specs.declared.job.Job.{Job}
use Rattle.txn_core.specs.Suites.{ReadPoint}
use Rattle.txn_core.specs.Doing.{Fixed}
use Rattle.txn_core.specs.Agents.{Agent, Event, next_of, is_idle}
use Rattle.txn_core.specs.Laws.{of_job, IsStart}
use Rattle.txn_core.specs.Caching.{FirstGave}
use Rattle.law_agents.specs.Steps.{agent_after}

-- The suite had a quorum, and of the members of the first one this server is the first, in listed order, that showed the version that this gave.
pub record IsFetching (fixed : Fixed) (agent : Agent) (job : Job) (events : List Event) (server suite : ℕ) : Type 0 where
  pub start : Prefix
  pub gathered : IsStart fixed agent job events suite start
  pub first : ReadPoint
  pub gave : FirstGave start suite (of_job fixed agent job events) first
  pub at : server ≡ first.source

abbrev pub FetchesInOrder : Type 0
FetchesInOrder =
    (fixed : Fixed) (agent : Agent) (job : Job) (events : List Event) (server t suite : ℕ) → is_idle agent.doing ≡ true
    → next_of fixed (agent_after fixed agent job events) ≡ Some (server, request.Fetch t suite)
    → IsFetching fixed agent job events server suite
