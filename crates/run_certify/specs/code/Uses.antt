-- Entries of transcripts are used, one after the other.
use Rattle.std.specs.Prelude.{◌≡◌, ℕ, ◌<◌, List, [], ◌++◌, ◌∷◌, length, slice_set, Option, Some, None}
use Rattle.run_core.specs.declared.done.EndedJob.{EndedJob}
use Rattle.run_certify.specs.declared.entry.AgentEntry.{AgentEntry}
use Rattle.run_certify.specs.declared.entry.AgentEntry.TheVariants.{Ended}
use Rattle.run_certify.specs.Weaves.{transcript_of}

-- what an agent's transcript began with was used
pub record AreUsed (was : List (List AgentEntry)) (agent : ℕ) (entries : List AgentEntry) (now : List (List AgentEntry)) : Type 0 where
  pub rest : List AgentEntry
  pub there : agent < length was
  pub first : transcript_of was agent ≡ entries ++ rest
  pub set : now ≡ slice_set was agent rest

-- that a job ended was used, if one did
abbrev pub HasEnded : List (List AgentEntry) → ℕ → Option EndedJob → List (List AgentEntry) → Type 0
HasEnded was agent (Some outcome) now = AreUsed was agent (Ended outcome ∷ []) now
HasEnded was agent None now = now ≡ was

-- a job ended, and that is not what comes next
abbrev pub EndsOtherwise : List (List AgentEntry) → ℕ → Option EndedJob → Type 0
EndsOtherwise was agent (Some outcome) = (rest : List AgentEntry) → transcript_of was agent ≡ Ended outcome ∷ rest → ⊥
EndsOtherwise was agent None = ⊥
