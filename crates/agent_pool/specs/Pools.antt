-- What a pool did.
use Rattle.std.specs.Prelude.{◌≡◌, ℕ, ◌+◌, ◌<◌, ◌≤◌, true, List, [], ◌∷◌, All, length, map, Contains, slice_get, Option, Some}
use Rattle.std.specs.List.{AllZip}
use Rattle.server_lock.specs.Counts.{passes_by}
use Rattle.server_lock.specs.Passes.{Held}
use Rattle.txn_core.specs.Agents.{has_sense}
use Rattle.agent_pool.specs.declared.fault.PoolFault.{PoolFault}
use Rattle.agent_pool.specs.declared.fault.PoolFault.TheVariants.{Double, Memory, Missing, Stranger}
use Rattle.agent_pool.specs.declared.pool_context.NamedJob.{NamedJob}
use Rattle.agent_pool.specs.declared.outcome.JobOutcome.{JobOutcome}
use Rattle.agent_pool.specs.declared.pool.Pool.{Pool}
use Rattle.agent_pool.specs.Seats.{IsOther, WentOn}
use Rattle.agent_pool.specs.Transcripts.{Played, IsIdle, IsTold, begins, number_of}

-- an agent of this number, as it was and as it is
pub record IsOf (was players : List Played) (agent : ℕ) (before player : Played) : Type 0 where
  pub had : Contains was before
  pub old : number_of before ≡ agent
  pub has : Contains players player
  pub new : number_of player ≡ agent

-- The outcome is of this job, and its agent's transcript has the job as its begin of that count, and after that how it ended. The agent began it after
-- all that it had begun before, and the job has sense for it.
pub record IsOutcome (was players : List Played) (named : NamedJob) (outcome : JobOutcome) : Type 0 where
  pub of : outcome.job ≡ named.number
  pub before : Played
  pub player : Played
  pub by : IsOf was players outcome.agent before player
  pub told : IsTold player named.job outcome.count outcome.at
  pub since : begins before.entries ≤ outcome.count
  pub sense : has_sense player.agent.fixed named.job ≡ true

-- one outcome for each job, in their order
abbrev pub AreOutcomes : (was players : List Played) → List NamedJob → List JobOutcome → Type 0
AreOutcomes was players jobs outcomes = AllZip (IsOutcome was players) jobs outcomes

-- no two are of one agent and one count
abbrev pub AreApart : List JobOutcome → Type 0
AreApart outcomes = (i j : ℕ) (a b : JobOutcome) → slice_get outcomes i ≡ Some a → slice_get outcomes j ≡ Some b → a.agent ≡ b.agent → a.count ≡ b.count → i ≡ j

-- of two of one agent the one whose job stands first was begun first
abbrev pub AreInOrder : List JobOutcome → Type 0
AreInOrder outcomes = (i j : ℕ) (a b : JobOutcome) → slice_get outcomes i ≡ Some a → slice_get outcomes j ≡ Some b → a.agent ≡ b.agent → i < j → a.count < b.count

-- how many jobs agents began, all together
abbrev pub begun_by : List Played → ℕ
begun_by [] = 0
begun_by (player ∷ players) = begins player.entries + begun_by players

-- Each agent went on, with its pass, and is idle again. The other passes come back as they were. There is one outcome for each job, no two of them with
-- one agent and one count, and each agent began its jobs in their order. The agents began no more jobs than these.
pub record IsPoolOf (jobs : List NamedJob) (was : List Played) (passes : List Held) (pool : Pool) : Type 0 where
  pub agents : AllZip (WentOn passes pool.passes.items) was pool.agents.items
  pub idle : All IsIdle pool.agents.items
  pub others : (asker : Option ℕ) → IsOther was asker → passes_by asker pool.passes.items ≡ passes_by asker passes
  pub each : AreOutcomes was pool.agents.items jobs pool.outcomes.items
  pub apart : AreApart pool.outcomes.items
  pub order : AreInOrder pool.outcomes.items
  pub once : begun_by pool.agents.items ≡ begun_by was + length jobs

abbrev pub job_numbers : List NamedJob → List ℕ
job_numbers jobs = map (λ (named : NamedJob). named.number) jobs

-- what a fault tells of the jobs that were handed in: none was taken twice, and nothing else than them was taken
abbrev pub IsFaultOf : List NamedJob → PoolFault → Type 0
IsFaultOf jobs Memory = Unit {0}
IsFaultOf jobs (Double job) = ⊥
IsFaultOf jobs (Stranger place) = ⊥
IsFaultOf jobs (Missing job) = Contains (job_numbers jobs) job
