-- What agents took of the jobs that were handed in, and what is told of it.
use Rattle.std.specs.Prelude.{◌≡◌, ◌≢◌, ◌⊎◌, ℕ, false, List, [], ◌∷◌, ◌++◌, length, Contains, slice_get, Option, Some, None, Result, Err}
use Rattle.std.specs.List.{AllZip}
use Rattle.server_lock.specs.Passes.{Held}
use Rattle.txn_core.specs.declared.job.Job.{Job}
use Rattle.txn_core.specs.Agents as agents
use Rattle.agent_pool.specs.declared.fault.PoolFault.{PoolFault}
use Rattle.agent_pool.specs.declared.fault.PoolFault.TheVariants.{Memory, Missing}
use Rattle.agent_pool.specs.declared.pool.Pool.{Pool}
use Rattle.agent_pool.specs.declared.pool_context.NamedJob.{NamedJob}
use Rattle.agent_pool.specs.declared.work.Halt.{Halt}
use Rattle.agent_pool.specs.declared.work.Halt.TheVariants.{Lacked, Strange, Stuck}
use Rattle.agent_pool.specs.declared.work.Worked.{Worked}
use Rattle.agent_pool.specs.Gathers.{Gathers, first_stuck, places_by}
use Rattle.agent_pool.specs.Line.{HaveSame, places_below}
use Rattle.agent_pool.specs.Seats.{passes_for}
use Rattle.agent_pool.specs.Transcripts.{Played, number_of}
use Rattle.agent_pool.specs.code.Steps.{CannotGoOn}
use Rattle.agent_pool.specs.code.Working.{IsWorked}

-- an agent can do no more of a job: it cannot begin it, or cannot go on
abbrev pub CannotDo : ℕ → Job → Played → Held → Type 0
CannotDo servers job played pass = (agents.begins played.agent.fixed played.agent.state job ≡ false) ⊎ CannotGoOn servers played pass

-- an agent got stuck at this job, which is among those that it took and did not do
pub record GotStuck (servers : ℕ) (jobs : List NamedJob) (player : Played) (pass : Held) (left : List ℕ) (job : ℕ) : Type 0 where
  pub place : ℕ
  pub named : NamedJob
  pub there : slice_get jobs place ≡ Some named
  pub of : job ≡ named.number
  pub took : Contains left place
  pub cannot : CannotDo servers named.job player pass

-- an agent left these that it took: none, where it ran whatever it took
abbrev pub Leaves : ℕ → List NamedJob → Played → Held → List ℕ → Option Halt → Type 0
Leaves servers jobs player pass left None = left ≡ []
Leaves servers jobs player pass left (Some Lacked) = Unit {0}
Leaves servers jobs player pass left (Some (Stuck job)) = GotStuck servers jobs player pass left job
Leaves servers jobs player pass left (Some (Strange place)) = Contains left place

-- an agent took the jobs at these places: those that it did, and then those that it left
pub record Took (servers : ℕ) (jobs : List NamedJob) (worked : Worked) (taken : List ℕ) : Type 0 where
  pub left : List ℕ
  pub split : taken ≡ places_by worked.done.items ++ left
  pub leaves : Leaves servers jobs worked.player worked.pass left worked.halt

-- agents took the jobs at these places, one agent behind the other
abbrev pub AllTook : ℕ → List NamedJob → List Worked → List ℕ → Type 0
AllTook servers jobs [] taken = taken ≡ []
AllTook servers jobs (one ∷ later) taken = (own : List ℕ) × (others : List ℕ) × (taken ≡ own ++ others) × Took servers jobs one own × AllTook servers jobs later others

-- agents took the jobs that were handed in, each once, and no others
abbrev pub AreTaken : ℕ → List NamedJob → List Worked → Type 0
AreTaken servers jobs worked = (taken : List ℕ) × AllTook servers jobs worked taken × HaveSame taken (places_below (length jobs))

-- ---- what a pool answers

-- an agent handed this back: it went on from where it was, with its pass
abbrev pub IsHandedBack : List NamedJob → List Held → Played → Worked → Type 0
IsHandedBack jobs passes was worked = (pass : Held) × Contains (passes_for (number_of was) passes) pass × IsWorked jobs was pass worked

-- a job is missing only where an agent got stuck
abbrev pub HasReason : {A : Type 0} → List Worked → Result A PoolFault → Type 0
HasReason worked (Err (Missing job)) = first_stuck worked ≢ None
HasReason worked _ = Unit {0}

-- it is answered so of what the agents handed back, one of each, who took all jobs
pub record GathersSome (servers : ℕ) (jobs : List NamedJob) (was : List Played) (passes : List Held) (result : Result Pool PoolFault) : Type 0 where
  pub worked : List Worked
  pub each : AllZip (IsHandedBack jobs passes) was worked
  pub taken : AreTaken servers jobs worked
  pub gathers : Gathers jobs worked result
  pub reason : HasReason worked result

-- the same, or memory was refused before the first of them began, or no thread could be started
abbrev pub GathersOrLacks : ℕ → List NamedJob → List Played → List Held → Result Pool PoolFault → Type 0
GathersOrLacks servers jobs was passes result = (result ≡ Err Memory) ⊎ GathersSome servers jobs was passes result
