-- What an agent asks is a function of what it was told.
use Rattle.std.specs.Prelude.{◌≡◌, true, List}
use Rattle.txn_core.specs.declared.response.Response.{Response}
use Rattle.txn_core.specs.declared.job.Job.{Job}
use Rattle.txn_core.specs.Doing.{Fixed}
use Rattle.txn_core.specs.Agents.{Agent, Event, next_of, take, is_idle}
use Rattle.txn_core.specs.Laws.{of_job}
use Rattle.law_agents.specs.Steps.{agent_after}

-- Two agents after one job: they asked the same, they ask the same next, and whatever both are told now, their jobs end the same, if they end.
pub record AskTheSame (fixed : Fixed) (one other : Agent) (job : Job) (events : List Event) : Type 0 where
  pub asked : of_job fixed one job events ≡ of_job fixed other job events
  pub asks : next_of fixed (agent_after fixed one job events) ≡ next_of fixed (agent_after fixed other job events)
  pub ends : (told : Response) → (take fixed (agent_after fixed one job events) told).ending ≡ (take fixed (agent_after fixed other job events) told).ending

-- Idle agents of one index, one count of jobs and one cache, which begin one job and were told the same.
abbrev pub SameToldSameAsked : Type 0
SameToldSameAsked =
    (fixed : Fixed) (one other : Agent) (job : Job) (events : List Event) → is_idle one.doing ≡ true → is_idle other.doing ≡ true
    → one.index ≡ other.index → one.count ≡ other.count → one.cache ≡ other.cache
    → AskTheSame fixed one other job events
