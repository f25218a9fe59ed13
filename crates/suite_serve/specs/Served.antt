-- What the jobs of a script came to, and how it is printed.
use Rattle.std.specs.Prelude.{◌≡◌, ℕ, ◌+◌, ◌<◌, min, Contains, List, [], ◌∷◌, ◌++◌, codes, decimal, length, slice_get, Option, Some, None}
use Rattle.std.specs.List.{flat_map}
use Rattle.std.specs.Option.{option_map}
use Rattle.txn_core.specs.declared.ending.Ending.{Ending}
use Rattle.txn_core.specs.declared.job.Job.{Job}
use Rattle.run_core.specs.declared.done.EndedJob.{EndedJob}
use Rattle.server_lock.specs.declared.item.Item.{Item}
use Rattle.run_certify.specs.declared.entry.AgentEntry.{AgentEntry}
use Rattle.run_certify.specs.declared.entry.AgentEntry.TheVariants.{Begun, Asked, Ended}
use Rattle.run_certify.specs.Certified.{IsCertified}
use Rattle.run_certify.specs.Promised.{CertifiedIsPromised}
use Rattle.law_certified.specs.Histories.{TellsOfTime}
use Rattle.server_lock.specs.Counts.{made_by}
use Rattle.agent_pool.specs.declared.outcome.JobOutcome.{JobOutcome}
use Rattle.agent_pool.specs.Endings.{end_at}
use Rattle.agent_pool.specs.Transcripts.{AreAsks, begins}
use Rattle.suite_play.specs.Texts.{ending_text}
use Rattle.suite_script.specs.Faults.{line_feed}
use Rattle.suite_serve.specs.Scripts.{Plan}

-- how a job ended, by its number; none, where that is not told
pub record JobEnd : Type 0 where
  pub job : ℕ
  pub told : Option EndedJob

-- what the jobs of a script came to, in the order of their numbers, and how many requests were served
pub record Came : Type 0 where
  pub ends : List JobEnd
  pub steps : ℕ

-- ---- lines

-- the number of a job, how many steps it took, and how it ended
abbrev pub told_line : ℕ → Option EndedJob → List ℕ
told_line job (Some outcome) = decimal job ++ codes " " ++ decimal outcome.steps ++ codes " " ++ ending_text outcome.ending ++ line_feed
told_line job None = []

abbrev pub job_line : JobEnd → List ℕ
job_line end = told_line end.job end.told

abbrev pub job_lines : List JobEnd → List ℕ
job_lines ends = flat_map job_line ends

-- ---- endings

abbrev pub ending_of : Option EndedJob → List Ending
ending_of (Some outcome) = outcome.ending ∷ []
ending_of None = []

-- how jobs ended, where that is told
abbrev pub endings_of : List JobEnd → List Ending
endings_of [] = []
endings_of (end ∷ ends) = ending_of end.told ++ endings_of ends

-- ---- ends in transcripts

abbrev pub end_there : Option (List AgentEntry) → ℕ → Option EndedJob
end_there (Some transcript) at = end_at transcript at
end_there None at = None

-- the end that a job's outcome names
abbrev pub named_end : List (List AgentEntry) → JobOutcome → Option EndedJob
named_end transcripts outcome = end_there (slice_get transcripts outcome.agent) outcome.at

abbrev pub end_in : List (List AgentEntry) → JobOutcome → JobEnd
end_in transcripts outcome = record { job = outcome.job; told = named_end transcripts outcome }

-- ---- what was certified

-- all items of histories
abbrev pub items_in : List (List Item) → ℕ
items_in [] = 0
items_in (history ∷ histories) = length history + items_in histories

-- A job ended so: its agent's transcript has the job as its begin of that count, then as many requests as it took steps, and then this end.
pub record EndedSo (transcripts : List (List AgentEntry)) (job : Job) (told : EndedJob) : Type 0 where
  pub before : List AgentEntry
  pub asked : List AgentEntry
  pub after : List AgentEntry
  pub there : slice_get transcripts told.agent ≡ Some (before ++ Begun job ∷ (asked ++ Ended told ∷ after))
  pub count : begins before ≡ told.count
  pub asks : AreAsks asked
  pub steps : length asked ≡ told.steps

-- how the job of a number ended
pub record IsJobEnd (transcripts : List (List AgentEntry)) (number : ℕ) (job : Job) (end : JobEnd) : Type 0 where
  pub told : EndedJob
  pub is : end ≡ record { job = number; told = Some told }
  pub ended : EndedSo transcripts job told

-- how all jobs ended, which are numbered from a number on
abbrev pub AreJobEnds : List (List AgentEntry) → ℕ → List Job → List JobEnd → Type 0
AreJobEnds transcripts number [] [] = Unit {0}
AreJobEnds transcripts number (job ∷ jobs) (end ∷ ends) = IsJobEnd transcripts number job end × AreJobEnds transcripts (number + 1) jobs ends
AreJobEnds transcripts number _ _ = ⊥

-- who did a job, and as which of its jobs
abbrev pub done_as : JobEnd → Option (ℕ × ℕ)
done_as end = option_map (λ (told : EndedJob). (told.agent, told.count)) end.told

-- no two were done by one agent as one job
abbrev pub AreApart : List JobEnd → Type 0
AreApart ends = (i j : ℕ) (a b : JobEnd) → slice_get ends i ≡ Some a → slice_get ends j ≡ Some b → done_as a ≡ done_as b → i ≡ j

-- so many of the first were done by agent 0, each as the job of its place
abbrev pub AreFirst : ℕ → List JobEnd → Type 0
AreFirst alone ends = (place : ℕ) (end : JobEnd) → place < alone → slice_get ends place ≡ Some end → done_as end ≡ Some (0, place)

-- of two that one agent did, it began the first before the second
abbrev pub AreInOrder : List JobEnd → Type 0
AreInOrder ends =
    (i j : ℕ) (a b : JobEnd) (agent first second : ℕ) → slice_get ends i ≡ Some a → slice_get ends j ≡ Some b → i < j
    → done_as a ≡ Some (agent, first) → done_as b ≡ Some (agent, second) → first < second

-- its end stands in these entries
abbrev pub EndsIn : List AgentEntry → Option EndedJob → Type 0
EndsIn entries (Some told) = Contains entries (Ended told)
EndsIn entries None = ⊥

-- So many of the first were served before all others: agent 0 began with a part in which it began just these, and in which each of them ended. What a
-- server served for that part it served before all that it served for the rest, or for others: its stamps rise, and each stamp that it gave in it is below.
-- Of a job that asked nothing yet it is not said when it was begun.
pub record AreBefore (alone : ℕ) (ends : List JobEnd) (transcripts : List (List AgentEntry)) : Type 0 where
  pub first : List AgentEntry
  pub rest : List AgentEntry
  pub others : List (List AgentEntry)
  pub split : transcripts ≡ (first ++ rest) ∷ others
  pub just : begins first ≡ min alone (length ends)
  pub ended : (place : ℕ) (end : JobEnd) → place < alone → slice_get ends place ≡ Some end → EndsIn first end.told
  pub before : (server stamp later : ℕ) (entries : List AgentEntry) → Contains first (Asked server stamp) → Contains (rest ∷ others) entries
      → Contains entries (Asked server later) → stamp < later

-- how many jobs were begun, all together
abbrev pub begun_in : List (List AgentEntry) → ℕ
begun_in [] = 0
begun_in (entries ∷ later) = begins entries + begun_in later

-- What came of a script's jobs is what came of them in one run of servers and agents, which opens with the script's settings: each job ended so in what
-- the agents did, those above `together` as the first jobs of agent 0, in their order, and served before all others; each agent did its jobs in their
-- order; each was begun once, and nothing else; the operator did nothing; and so many requests were served. Of that run holds all that is promised of a run,
-- at each of its moments, and what its histories tell of time.
pub record IsServed (plan : Plan) (came : Came) : Type 0 where
  pub histories : List (List Item)
  pub transcripts : List (List AgentEntry)
  pub certified : IsCertified plan.settings histories transcripts
  pub promised : CertifiedIsPromised plan.settings histories transcripts
  pub time : TellsOfTime plan.settings histories transcripts
  pub each : AreJobEnds transcripts 0 plan.jobs came.ends
  pub apart : AreApart came.ends
  pub alone : AreFirst plan.alone came.ends
  pub before : AreBefore plan.alone came.ends transcripts
  pub order : AreInOrder came.ends
  pub once : begun_in transcripts ≡ length plan.jobs
  pub quiet : made_by None histories ≡ 0
  pub steps : came.steps ≡ items_in histories
