-- A walk through histories and transcripts: what is left of them, the world after what was played, and what was decided so far.
use Rattle.std.specs.Prelude.{◌≡◌, ℕ, Bool, ◌+◌, ◌≤◌, List, [], ◌∷◌, ◌++◌, length, slice_set, Option, Some}
use Rattle.std.specs.List.{cons_option}
use Rattle.suite_prefix.specs.SettingsRules.{Opening, IsAccepted}
use Rattle.txn_core.specs.Doing.{Fixed}
use Rattle.txn_core.specs.declared.job.Job.{Job}
use Rattle.txn_core.specs.Agents.{fixed_of}
use Rattle.run_core.specs.Decisions.{Decided, decisions_from}
use Rattle.run_core.specs.declared.done.Done.{Done}
use Rattle.run_core.specs.declared.done.EndedJob.{EndedJob}
use Rattle.run_core.specs.declared.done.Served.{Served}
use Rattle.run_core.specs.declared.event.Event.{Event}
use Rattle.run_core.specs.Telling.{served_if}
use Rattle.run_core.specs.Worlds.{World, opening, step}
use Rattle.server_lock.specs.declared.item.Item.{Item}
use Rattle.run_certify.specs.declared.entry.AgentEntry.{AgentEntry}
use Rattle.run_certify.specs.declared.entry.AgentEntry.TheVariants.{Asked}
use Rattle.run_certify.specs.Certified.{AreOfRun}
use Rattle.run_certify.specs.Deciding.{AreCounted, IsPlayed, count_at, decision_by, job_at}
use Rattle.run_certify.specs.Merges.{ItemAt, IsMerge}
use Rattle.run_certify.specs.Weaves.{transcript_of, weave}
use Rattle.run_certify.specs.code.Begins.{Begins}
use Rattle.run_certify.specs.code.Firsts.{IsTaken}
use Rattle.run_certify.specs.code.Turns.{IsTurn}
use Rattle.run_certify.specs.code.Uses.{AreUsed, HasEnded}

-- where the walk is
pub record Walked : Type 0 where
  pub settings : Opening
  pub given : Opening
  pub world : World
  pub histories : List (List Item)
  pub unused : List (List AgentEntry)
  pub begun : Begins
  pub made : List Decided

-- What is left of histories and transcripts, from a world on, is of a run with these decisions; an item that was taken already may stand before the rest.
pub record IsLeft (fixed : Fixed) (world : World) (taken : List ItemAt) (histories : List (List Item)) (unused : List (List AgentEntry)) (ds : List Decided) : Type 0 where
  pub items : List ItemAt
  pub merge : IsMerge histories items
  pub run : AreOfRun fixed world (weave (taken ++ items) unused) (taken ++ items) unused
  pub is : ds ≡ decisions_from fixed world (weave (taken ++ items) unused)

-- what was played and what is left is a run with these decisions
pub record IsOfRun (walked : Walked) (taken : List ItemAt) (total : List Decided) : Type 0 where
  pub later : List Decided
  pub parts : total ≡ walked.made ++ later
  pub left : IsLeft (fixed_of walked.given) walked.world taken walked.histories walked.unused later

-- its world was played, and it knows which job each agent began last, and how many
pub record IsSound (walked : Walked) : Type 0 where
  pub accepted : IsAccepted walked.given
  pub same : walked.settings ≡ walked.given
  pub played : IsPlayed walked.given walked.world walked.begun.jobs
  pub counted : AreCounted walked.world walked.begun.counts
  pub jobs_there : length walked.begun.jobs ≡ length walked.unused
  pub counts_there : length walked.begun.counts ≡ length walked.unused

-- The walk went on: what is left is of a run with some decisions exactly where it was before.
pub record Goes (was : Walked) (taken : List ItemAt) (now : Walked) (left : List ItemAt) : Type 0 where
  pub sound : IsSound was → IsSound now
  pub on : IsSound was → (total : List Decided) → IsOfRun was taken total → IsOfRun now left total
  pub back : IsSound was → (total : List Decided) → IsOfRun now left total → IsOfRun was taken total

-- what is left is of no run
abbrev pub Fails : Walked → List ItemAt → Type 0
Fails was taken = IsSound was → (total : List Decided) → IsOfRun was taken total → ⊥

-- ---- an entry

-- it is used, and nothing else has changed
pub record IsUse (was : Walked) (agent : ℕ) (entry : AgentEntry) (now : Walked) : Type 0 where
  pub used : AreUsed was.unused agent (entry ∷ []) now.unused
  pub kept : now ≡ record was { unused = now.unused }

-- the next item was taken, and nothing else has changed
pub record IsItemTaken (was : Walked) (server : ℕ) (item : Item) (now : Walked) : Type 0 where
  pub taken : IsTaken was.histories server item now.histories
  pub kept : now ≡ record was { histories = now.histories }

-- an event was played in its world, in which this was done, and nothing else has changed
pub record IsEvent (was : Walked) (event : Event) (done : Done) (now : Walked) : Type 0 where
  pub is : step (fixed_of was.given) was.world event ≡ record { world = now.world; done = done }
  pub kept : now ≡ record was { world = now.world }

-- what was done, as two places tell it
abbrev pub what_was_done : Bool → Served → Option EndedJob → Done
what_was_done was_served served outcome = record { served = served_if was_served served; outcome = outcome }

-- what was served may have decided the transaction of an agent
abbrev pub with_decision : Walked → ℕ → Option Served → Walked
with_decision was agent served = record was { made = was.made ++ cons_option (decision_by (job_at was.begun.jobs agent) served) [] }

-- the end of a job is used, if it ended, and nothing else has changed
pub record IsEnd (was : Walked) (agent : ℕ) (outcome : Option EndedJob) (now : Walked) : Type 0 where
  pub ended : HasEnded was.unused agent outcome now.unused
  pub kept : now ≡ record was { unused = now.unused }

-- a job is counted as begun, and nothing else has changed
pub record IsBegin (was : Walked) (agent : ℕ) (job : Job) (now : Walked) : Type 0 where
  pub jobs : now.begun.jobs ≡ slice_set was.begun.jobs agent (Some job)
  pub counts : now.begun.counts ≡ slice_set was.begun.counts agent (count_at was.begun.counts agent + 1)
  pub kept : now ≡ record was { begun = now.begun }

-- an agent's entry that was used is played
abbrev pub EntryGoes : ℕ → AgentEntry → Walked → Walked → Type 0
EntryGoes agent entry old new = (was : Walked) (taken : List ItemAt) → IsUse was agent entry old → IsTurn taken was.histories was.unused agent → Goes was taken new taken

abbrev pub EntryFails : ℕ → AgentEntry → Walked → Type 0
EntryFails agent entry old = (was : Walked) (taken : List ItemAt) → IsUse was agent entry old → IsTurn taken was.histories was.unused agent → Fails was taken

-- only an agent's entries are used, and no items
pub record IsShorter (old : Walked) (agent : ℕ) (new : Walked) : Type 0 where
  pub histories : new.histories ≡ old.histories
  pub rest : List AgentEntry
  pub set : new.unused ≡ slice_set old.unused agent rest
  pub short : length rest ≤ length (transcript_of old.unused agent)

-- a step of an agent is played, which was told a stamp by a server: what is served is the item that was taken
abbrev pub AskedGoes : ℕ → ℕ → ℕ → ItemAt → Walked → Walked → Type 0
AskedGoes agent server stamp one old new = (was : Walked) → IsUse was agent (Asked server stamp) old → Goes was (one ∷ []) new []

abbrev pub AskedFails : ℕ → ℕ → ℕ → ItemAt → Walked → Type 0
AskedFails agent server stamp one old = (was : Walked) → IsUse was agent (Asked server stamp) old → Fails was (one ∷ [])

-- ---- the start

-- nothing was played yet
pub record IsStart (given : Opening) (histories : List (List Item)) (transcripts : List (List AgentEntry)) (walked : Walked) : Type 0 where
  pub settings : walked.settings ≡ given
  pub given_is : walked.given ≡ given
  pub world : walked.world ≡ opening given
  pub histories_are : walked.histories ≡ histories
  pub unused : walked.unused ≡ transcripts
  pub jobs_there : length walked.begun.jobs ≡ length transcripts
  pub counts_there : length walked.begun.counts ≡ length transcripts
  pub none : (agent : ℕ) → count_at walked.begun.counts agent ≡ 0
  pub made : walked.made ≡ []
