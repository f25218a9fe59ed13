-- What is put together of what agents did.
use Rattle.std.specs.Prelude.{◌≡◌, ◌≢◌, ℕ, ◌≤◌, ◌<◌, List, [], ◌∷◌, ◌++◌, All, Contains, length, slice_get, Option, Some, None}
use Rattle.std.specs.List.{AllZip}
use Rattle.std.specs.Vec.{vec_capacity}
use Rattle.server_lock.specs.Passes.{Held}
use Rattle.agent_pool.specs.declared.gather.Room.{Room}
use Rattle.agent_pool.specs.declared.pool.Pool.{Pool}
use Rattle.agent_pool.specs.declared.outcome.JobOutcome.{JobOutcome}
use Rattle.agent_pool.specs.declared.work.JobDone.{JobDone}
use Rattle.agent_pool.specs.declared.work.SeatedAgent.{SeatedAgent}
use Rattle.agent_pool.specs.declared.work.Worked.{Worked}
use Rattle.agent_pool.specs.declared.pool_context.NamedJob.{NamedJob}
use Rattle.agent_pool.specs.Pools.{AreApart, AreInOrder, AreOutcomes}
use Rattle.agent_pool.specs.code.Filled.{AreNone, done_in, passes_of, players_of, sitting}
use Rattle.agent_pool.specs.Seats.{AreDistinct}
use Rattle.agent_pool.specs.code.Starts.{IsWorkOf}

-- a place for each job, none filled, and room for the agents
pub record HasRoom (jobs players : ℕ) (room : Room) : Type 0 where
  pub none : AreNone room.slots
  pub long : length room.slots ≡ jobs
  pub no_agent : room.agents.items ≡ []
  pub agents : players ≤ vec_capacity room.agents

-- all agents ran whatever they took
abbrev pub AllRan : List Worked → Type 0
AllRan worked = All (λ (one : Worked). one.halt ≡ None) worked

-- the place of what was done is taken by an outcome, of this job
pub record IsTaken (jobs : List NamedJob) (slots : List (Option JobOutcome)) (done : JobDone) (job : ℕ) : Type 0 where
  pub named : NamedJob
  pub there : slice_get jobs done.place ≡ Some named
  pub of : job ≡ named.number
  pub outcome : JobOutcome
  pub taken : slice_get slots done.place ≡ Some (Some outcome)

-- this is the first place without an outcome, of this job
pub record IsEmpty (jobs : List NamedJob) (slots : List (Option JobOutcome)) (job : ℕ) : Type 0 where
  pub place : ℕ
  pub named : NamedJob
  pub there : slice_get jobs place ≡ Some named
  pub of : job ≡ named.number
  pub empty : slice_get slots place ≡ Some None
  pub before : (k : ℕ) → k < place → slice_get slots k ≢ Some None

-- the outcomes that were put stand at these places, one at each
pub record AreSeen (seen : List ℕ) (slots : List (Option JobOutcome)) : Type 0 where
  pub filled : (place : ℕ) (outcome : JobOutcome) → slice_get slots place ≡ Some (Some outcome) → Contains seen place
  pub empty : (place : ℕ) → slice_get slots place ≡ Some None → ¬ (Contains seen place)
  pub once : AreDistinct seen

-- it is of a job, of which there are so many
pub record IsWithin (many : ℕ) (done : JobDone) : Type 0 where
  pub low : done.place < many

abbrev pub AreWithin : ℕ → List JobDone → Type 0
AreWithin many [] = Unit {0}
AreWithin many (done ∷ later) = IsWithin many done × AreWithin many later

-- the outcomes of all jobs
pub record AreGathered (jobs : List NamedJob) (worked : List Worked) (outcomes : List JobOutcome) : Type 0 where
  pub each : (seats : List SeatedAgent) → AllZip (IsWorkOf jobs) seats worked → AreOutcomes (sitting seats) (players_of worked) jobs outcomes
  pub apart : AreApart outcomes
  pub order : AreInOrder outcomes
  pub once : done_in worked ≡ length jobs

-- a pool of what all these did
pub record IsGathered (jobs : List NamedJob) (worked : List Worked) (left : List Held) (pool : Pool) : Type 0 where
  pub agents : pool.agents.items ≡ players_of worked
  pub passes : pool.passes.items ≡ left ++ passes_of worked
  pub ran : AllRan worked
  pub each : (seats : List SeatedAgent) → AllZip (IsWorkOf jobs) seats worked → AreOutcomes (sitting seats) (players_of worked) jobs pool.outcomes.items
  pub apart : AreApart pool.outcomes.items
  pub order : AreInOrder pool.outcomes.items
  pub once : done_in worked ≡ length jobs
