-- What is told of what agents handed back.
use Rattle.std.specs.Prelude.{◌≡◌, ◌⊎◌, ℕ, ◌<◌, Bool, true, false, List, [], ◌∷◌, ◌++◌, length, map, Contains, slice_get, Option, Some, None, Result, Ok, Err}
use Rattle.agent_pool.specs.declared.fault.PoolFault.{PoolFault}
use Rattle.agent_pool.specs.declared.fault.PoolFault.TheVariants.{Double, Memory, Missing, Stranger}
use Rattle.agent_pool.specs.declared.work.JobDone.{JobDone}
use Rattle.agent_pool.specs.declared.work.Halt.{Halt}
use Rattle.agent_pool.specs.declared.work.Halt.TheVariants.{Lacked, Strange, Stuck}
use Rattle.agent_pool.specs.declared.work.Worked.{Worked}
use Rattle.agent_pool.specs.declared.pool_context.NamedJob.{NamedJob}
use Rattle.agent_pool.specs.Seats.{AreDistinct}

-- ---- why agents ran no more

abbrev pub lacked_or : Option Halt → Bool → Bool
lacked_or (Some Lacked) later = true
lacked_or _ later = later

-- memory was refused to one of them
abbrev pub lacks_memory : List Worked → Bool
lacks_memory [] = false
lacks_memory (one ∷ later) = lacked_or one.halt (lacks_memory later)

abbrev pub strange_or : Option Halt → Option ℕ → Option ℕ
strange_or (Some (Strange place)) later = Some place
strange_or _ later = later

-- the place, beyond the jobs, that the first of them took that took such a one
abbrev pub first_strange : List Worked → Option ℕ
first_strange [] = None
first_strange (one ∷ later) = strange_or one.halt (first_strange later)

abbrev pub stuck_or : Option Halt → Option ℕ → Option ℕ
stuck_or (Some (Stuck job)) later = Some job
stuck_or _ later = later

-- the job that the first of them could not begin or go on with that could not do so
abbrev pub first_stuck : List Worked → Option ℕ
first_stuck [] = None
first_stuck (one ∷ later) = stuck_or one.halt (first_stuck later)

-- ---- the outcomes that they handed back

abbrev pub places_by : List JobDone → List ℕ
places_by dones = map (λ (done : JobDone). done.place) dones

-- the places of the jobs of which there is an outcome: agent by agent, and each agent's in its order
abbrev pub places : List Worked → List ℕ
places [] = []
places (one ∷ later) = places_by one.done.items ++ places later

-- there is an outcome of each job, and no second one
pub record HaveOne (jobs : List NamedJob) (ended : List ℕ) : Type 0 where
  pub once : AreDistinct ended
  pub all : (place : ℕ) → place < length jobs → Contains ended place

-- this is the first of these that stands among those before it
pub record IsTwice (ended : List ℕ) (place : ℕ) : Type 0 where
  pub before : List ℕ
  pub after : List ℕ
  pub split : ended ≡ before ++ place ∷ after
  pub once : AreDistinct before
  pub again : Contains before place

-- the first second outcome is of this job
pub record IsDouble (jobs : List NamedJob) (ended : List ℕ) (job : ℕ) : Type 0 where
  pub place : ℕ
  pub named : NamedJob
  pub there : slice_get jobs place ≡ Some named
  pub of : job ≡ named.number
  pub twice : IsTwice ended place

-- this is the first job of which there is no outcome
pub record IsMissing (jobs : List NamedJob) (ended : List ℕ) (job : ℕ) : Type 0 where
  pub place : ℕ
  pub named : NamedJob
  pub there : slice_get jobs place ≡ Some named
  pub of : job ≡ named.number
  pub none : ¬ (Contains ended place)
  pub before : (k : ℕ) → k < place → Contains ended k

-- ---- what is told of both

-- all could go on, and took jobs alone
pub record NoneFailed (worked : List Worked) : Type 0 where
  pub memory : lacks_memory worked ≡ false
  pub strange : first_strange worked ≡ None

-- Memory, where it was refused to one of them; else Stranger, where one took a place beyond the jobs; else Double, where there is a second outcome of a job;
-- else Missing, where there is none of one. Where there is just one of each, but an agent got stuck at a job as well, that job is a Double too.
abbrev pub TellsOf : List NamedJob → List Worked → PoolFault → Type 0
TellsOf jobs worked Memory = lacks_memory worked ≡ true
TellsOf jobs worked (Stranger place) = (lacks_memory worked ≡ false) × (first_strange worked ≡ Some place)
TellsOf jobs worked (Double job) =
    NoneFailed worked × (IsDouble jobs (places worked) job ⊎ (HaveOne jobs (places worked) × (first_stuck worked ≡ Some job)))
TellsOf jobs worked (Missing job) = NoneFailed worked × AreDistinct (places worked) × IsMissing jobs (places worked) job

-- A fault that tells so; else there is just one outcome of each job, and no agent got stuck.
abbrev pub Gathers : {A : Type 0} → List NamedJob → List Worked → Result A PoolFault → Type 0
Gathers jobs worked (Err fault) = TellsOf jobs worked fault
Gathers jobs worked (Ok pool) = NoneFailed worked × HaveOne jobs (places worked) × (first_stuck worked ≡ None)
