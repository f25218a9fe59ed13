-- The jobs that ended in a run met valid votes; so the bounds of their steps have no premise.
use Rattle.std.specs.Prelude.{◌≡◌, ℕ, ◌+◌, ◌*◌, ◌≤◌, true, List, length, Contains}
use Rattle.acl_core.specs.Identity.{Identity}
use Rattle.file_ops.specs.declared.operation.Op.{Op}
use Rattle.suite_prefix.specs.SettingsRules.{Opening}
use Rattle.txn_core.specs.declared.job.Job.TheVariants.{Transaction, Sweep}
use Rattle.txn_core.specs.Agents.{fixed_of}
use Rattle.txn_core.specs.Laws.{among, names_only, listed}
use Rattle.run_core.specs.declared.event.Event.{Event}
use Rattle.run_core.specs.declared.done.EndedJob.{EndedJob}
use Rattle.run_core.specs.Runs.{done_in, outcomes}
use Rattle.law_agents.specs.Steps.{VotesAreValid, is_known}
use Rattle.law_agents.specs.RunBounds.{EndsInItsTime}
use Rattle.law_headline.specs.Premises.{CanBe}

-- A job that ended in a run, and all votes that it met there are valid. So a transaction took few steps of n servers, which are those that there are and
-- those that votes name which it met, and k suites, which its requests name; and a sweep to which m locks were listed.
pub record EndsByTheBounds (given : Opening) (events : List Event) (outcome : EndedJob) : Type 0 where
  pub ends : EndsInItsTime given events outcome
  pub valid : VotesAreValid (fixed_of given) ends.actor.agent ends.past
  pub transaction : (caller : Identity) (site : ℕ) (ops : List Op) (servers suites : List ℕ) → ends.job ≡ Transaction caller site ops
      → ((server : ℕ) → is_known (fixed_of given) ends.actor.agent ends.past server ≡ true → among servers server ≡ true) → names_only suites ends.past ≡ true
      → outcome.steps ≤ length suites * (2 * length servers + 1) + 2 * length servers + 1
  pub sweep : (server : ℕ) → ends.job ≡ Sweep server → outcome.steps ≤ 1 + 2 * listed ends.past

-- So it is of every job that ended in any run that there can be.
abbrev pub RunsEndByTheBoundsAt : Opening → List Event → Type 0
RunsEndByTheBoundsAt given events = (outcome : EndedJob) → Contains (outcomes (done_in given events)) outcome → EndsByTheBounds given events outcome

abbrev pub RunsEndByTheBounds : Type 0
RunsEndByTheBounds = (given : Opening) (events : List Event) → CanBe given events → RunsEndByTheBoundsAt given events
