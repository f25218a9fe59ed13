-- What a thread did.
use Rattle.std.specs.Prelude.{◌≡◌, ◌≢◌, ℕ, ◌+◌, ◌≤◌, true, List, [], ◌∷◌, length, Contains, slice_get, Option, Some, None}
use Rattle.server_lock.specs.Passes.{Held}
use Rattle.txn_core.specs.Agents.{has_sense}
use Rattle.agent_pool.specs.declared.work.JobDone.{JobDone}
use Rattle.agent_pool.specs.declared.work.Halt.{Halt}
use Rattle.agent_pool.specs.declared.work.Halt.TheVariants.{Lacked, Strange, Stuck}
use Rattle.agent_pool.specs.declared.work.Worked.{Worked}
use Rattle.agent_pool.specs.declared.pool_context.NamedJob.{NamedJob}
use Rattle.agent_pool.specs.Pools.{job_numbers}
use Rattle.agent_pool.specs.Transcripts.{Played, GoesOn, IsIdle, IsLonger, IsTold, Leads, at_rest, begins}

-- the job that was handed in at a place was done, after so many others: the transcript tells it
pub record IsDone (jobs : List NamedJob) (began : ℕ) (played : Played) (done : JobDone) : Type 0 where
  pub named : NamedJob
  pub there : slice_get jobs done.place ≡ Some named
  pub told : IsTold played named.job done.ran.count done.ran.at
  pub since : began ≤ done.ran.count
  pub sense : has_sense played.agent.fixed named.job ≡ true

abbrev pub AllDone : List NamedJob → ℕ → Played → List JobDone → Type 0
AllDone jobs began played [] = Unit {0}
AllDone jobs began played (done ∷ later) = IsDone jobs began played done × AllDone jobs began played later

-- the counts rise, from a number to below another
abbrev pub RiseBetween : ℕ → List JobDone → ℕ → Type 0
RiseBetween low [] high = low ≤ high
RiseBetween low (done ∷ later) high = (low ≤ done.ran.count) × RiseBetween (done.ran.count + 1) later high

-- so do the places
abbrev pub RiseInPlace : ℕ → List JobDone → ℕ → Type 0
RiseInPlace low [] high = low ≤ high
RiseInPlace low (done ∷ later) high = (low ≤ done.place) × RiseInPlace (done.place + 1) later high

-- an agent that ran whatever it took has no job; what one could not do is a job that was handed in, and what none could know is not
abbrev pub IsHalted : List NamedJob → Played → Option Halt → Type 0
IsHalted jobs played None = IsIdle played
IsHalted jobs played (Some Lacked) = Unit {0}
IsHalted jobs played (Some (Stuck job)) = Contains (job_numbers jobs) job
IsHalted jobs played (Some (Strange place)) = length jobs ≤ place

-- An agent went on with its pass, and did these of the jobs that were handed in, in their order. It went on as the agent function does, unless memory was refused to it. If it
-- ran whatever it took, it began no others.
pub record IsWorked (jobs : List NamedJob) (was : Played) (pass : Held) (worked : Worked) : Type 0 where
  pub longer : IsLonger was worked.player
  pub went : GoesOn longer.rest pass worked.pass
  pub done : AllDone jobs (begins was.entries) worked.player worked.done.items
  pub rise : RiseBetween (begins was.entries) worked.done.items (begins worked.player.entries)
  pub next : ℕ
  pub order : RiseInPlace 0 worked.done.items next
  pub halted : IsHalted jobs worked.player worked.halt
  pub leads : worked.halt ≢ Some Lacked → Leads was.agent.fixed (at_rest was.agent.state) longer.rest (at_rest worked.player.agent.state)
  pub once : worked.halt ≡ None → begins worked.player.entries ≡ begins was.entries + length worked.done.items
