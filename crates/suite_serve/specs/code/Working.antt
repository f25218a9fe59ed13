-- Jobs as they are handed to agents, and what agents did with them.
use Rattle.std.specs.Prelude.{◌≡◌, ℕ, ◌+◌, ◌<◌, ◌≤◌, min, Contains, List, [], ◌∷◌, ◌++◌, length, map, slice_get, Some}
use Rattle.std.specs.List.{AllZip}
use Rattle.txn_core.specs.declared.job.Job.{Job}
use Rattle.run_certify.specs.declared.entry.AgentEntry.{AgentEntry}
use Rattle.run_certify.specs.declared.entry.AgentEntry.TheVariants.{Asked, Ended}
use Rattle.run_core.specs.declared.done.EndedJob.{EndedJob}
use Rattle.agent_pool.specs.declared.outcome.JobOutcome.{JobOutcome}
use Rattle.agent_pool.specs.declared.pool_context.NamedJob.{NamedJob}
use Rattle.agent_pool.specs.Pools.{AreApart, AreInOrder, begun_by}
use Rattle.agent_pool.specs.Transcripts.{Played, IsTold, begins, known_at, most_numbers, number_of}
use Rattle.suite_serve.specs.declared.serving.Worked.{Worked}

-- jobs, numbered from a number on
abbrev pub named_from : ℕ → List Job → List NamedJob
named_from number [] = []
named_from number (job ∷ jobs) = record { number = number; job = job } ∷ named_from (number + 1) jobs

-- agents are numbered from a number on
abbrev pub AreNumbered : ℕ → List Played → Type 0
AreNumbered number [] = Unit {0}
AreNumbered number (player ∷ players) = (number_of player ≡ number) × AreNumbered (number + 1) players

-- what agents did
abbrev pub transcripts_of : List Played → List (List AgentEntry)
transcripts_of players = map (λ (player : Played). player.entries) players

-- an outcome is of this job, and is told in the transcript of one of these agents
pub record HasEnded (players : List Played) (named : NamedJob) (outcome : JobOutcome) : Type 0 where
  pub of : outcome.job ≡ named.number
  pub player : Played
  pub there : Contains players player
  pub number : number_of player ≡ outcome.agent
  pub told : IsTold player named.job outcome.count outcome.at

abbrev pub HaveEnded : List Played → List NamedJob → List JobOutcome → Type 0
HaveEnded players jobs outcomes = AllZip (HasEnded players) jobs outcomes

-- so many of the first outcomes are of agent 0, each of the job of its place
abbrev pub AreOfFirst : ℕ → List JobOutcome → Type 0
AreOfFirst alone outcomes = (place : ℕ) (outcome : JobOutcome) → place < alone → slice_get outcomes place ≡ Some outcome → (outcome.agent ≡ 0) × (outcome.count ≡ place)

-- an agent goes on after all that these did: of each server it knows a stamp that is not below theirs
pub record FollowsAll (leaders : List Played) (was now : Played) : Type 0 where
  pub agent : now.agent ≡ was.agent
  pub entries : now.entries ≡ was.entries
  pub known : (place : ℕ) (leader : Played) (server : ℕ) → slice_get leaders place ≡ Some leader → server < most_numbers → known_at leader server ≤ known_at now server

-- So many of the first outcomes stand in a part with which agent 0 began. Each stamp that a server gave in it is below all others of that server.
pub record StandBefore (alone : ℕ) (outcomes : List JobOutcome) (transcripts : List (List AgentEntry)) : Type 0 where
  pub first : List AgentEntry
  pub rest : List AgentEntry
  pub others : List (List AgentEntry)
  pub split : transcripts ≡ (first ++ rest) ∷ others
  pub just : begins first ≡ min alone (length outcomes)
  pub ended : (place : ℕ) (outcome : JobOutcome) → place < alone → slice_get outcomes place ≡ Some outcome
      → (told : EndedJob) × (slice_get first outcome.at ≡ Some (Ended told))
  pub before : (server stamp later : ℕ) (entries : List AgentEntry) → Contains first (Asked server stamp) → Contains (rest ∷ others) entries
      → Contains entries (Asked server later) → stamp < later

-- all jobs were done, so many of the first by agent 0, before the others
pub record AreDone (jobs : List NamedJob) (alone : ℕ) (worked : Worked) : Type 0 where
  pub numbered : AreNumbered 0 worked.agents.items
  pub each : HaveEnded worked.agents.items jobs worked.outcomes.items
  pub apart : AreApart worked.outcomes.items
  pub first : AreOfFirst alone worked.outcomes.items
  pub order : AreInOrder worked.outcomes.items
  pub before : StandBefore alone worked.outcomes.items (transcripts_of worked.agents.items)
  pub once : begun_by worked.agents.items ≡ length jobs
