-- On which quorums a transaction prepares: each suite is held by them before the first server is asked to prepare.
use Rattle.std.specs.Prelude.{◌≡◌, ℕ, true, List, [], Some}
use Rattle.rep_core.specs.declared.request.Request.TheVariants as request
use Rattle.rep_core.specs.declared.request.Part.{Part}
use Rattle.suite_collect.specs.Collecting.{all_told}
use Rattle.txn_core.specs.Suites.{GatheredSuite, Suites, suite_of}
use Rattle.txn_core.specs.Writing.{parts_at}
use Rattle.txn_core.specs.declared.job.Job.{Job}
use Rattle.txn_core.specs.Doing.{Changes, Fixed}
use Rattle.txn_core.specs.Agents.{Agent, Event, next_of, is_idle}
use Rattle.txn_core.specs.Laws.{Exchange, of_job, told_of, IsReady}
use Rattle.law_agents.specs.Steps.{agent_after}

-- What a server is asked to prepare is what the changes leave of suites there of which just this was told in the exchanges; and each of the suites
-- is held as for a decision: by a quorum of the newest prefix that was seen while it was gathered, and where it is changed by a write quorum of
-- its votes before, and of those that are set.
pub record IsWritten (past : List Exchange) (server : ℕ) (parts : List Part) : Type 0 where
  pub suites : Suites
  pub changes : Changes
  pub parts_are : parts ≡ parts_at suites changes server
  pub told : (number : ℕ) (suite : GatheredSuite) → suite_of suites number ≡ Some suite → all_told suite.collector ≡ told_of number [] past
  pub ready : (number : ℕ) (suite : GatheredSuite) → suite_of suites number ≡ Some suite → IsReady suite number changes

abbrev pub PreparesOnQuorums : Type 0
PreparesOnQuorums =
    (fixed : Fixed) (agent : Agent) (job : Job) (events : List Event) (server t : ℕ) (parts : List Part) → is_idle agent.doing ≡ true
    → next_of fixed (agent_after fixed agent job events) ≡ Some (server, request.Prepare t parts)
    → IsWritten (of_job fixed agent job events) server parts
