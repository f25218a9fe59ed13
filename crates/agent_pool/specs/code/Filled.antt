-- Outcomes at their places, as they are put together.
use Rattle.std.specs.Prelude.{◌≡◌, ◌⊎◌, ℕ, ◌+◌, ◌<◌, List, [], ◌∷◌, All, length, map, Contains, slice_get, slice_set, Option, Some, None}
use Rattle.std.specs.List.{AllZip}
use Rattle.server_lock.specs.Passes.{Held}
use Rattle.agent_pool.specs.declared.work.JobDone.{JobDone}
use Rattle.agent_pool.specs.declared.work.SeatedAgent.{SeatedAgent}
use Rattle.agent_pool.specs.declared.work.Worked.{Worked}
use Rattle.agent_pool.specs.declared.pool_context.NamedJob.{NamedJob}
use Rattle.agent_pool.specs.declared.outcome.JobOutcome.{JobOutcome}
use Rattle.agent_pool.specs.Pools.{IsOutcome}
use Rattle.agent_pool.specs.Transcripts.{Played, IsIdle}
use Rattle.agent_pool.specs.code.Starts.{IsWorkOf}
use Rattle.agent_pool.specs.code.Working.{RiseBetween, RiseInPlace}

-- all who sit here are idle
abbrev pub AreIdle : List SeatedAgent → Type 0
AreIdle seats = All (λ (seat : SeatedAgent). IsIdle seat.player) seats

abbrev pub sitting : List SeatedAgent → List Played
sitting seats = map (λ (seat : SeatedAgent). seat.player) seats

abbrev pub players_of : List Worked → List Played
players_of worked = map (λ (one : Worked). one.player) worked

abbrev pub passes_of : List Worked → List Held
passes_of worked = map (λ (one : Worked). one.pass) worked

abbrev pub IsFilled : (was players : List Played) → NamedJob → Option JobOutcome → Type 0
IsFilled was players named None = Unit {0}
IsFilled was players named (Some outcome) = IsOutcome was players named outcome

-- what is filled stays right
abbrev pub KeepFilled : List NamedJob → (was players : List Played) → (old new : List (Option JobOutcome)) → Type 0
KeepFilled jobs was players old new = AllZip (IsFilled was players) jobs old → AllZip (IsFilled was players) jobs new

-- this is the work of agents who sat somewhere
abbrev pub AreWorks : List NamedJob → List Worked → Type 0
AreWorks jobs worked = (seats : List SeatedAgent) × AllZip (IsWorkOf jobs) seats worked

-- how many jobs they did, all together
abbrev pub done_in : List Worked → ℕ
done_in [] = 0
done_in (one ∷ later) = length one.done.items + done_in later

-- how many places have an outcome
abbrev pub filled_in : List (Option JobOutcome) → ℕ
filled_in [] = 0
filled_in (None ∷ slots) = filled_in slots
filled_in (Some outcome ∷ slots) = filled_in slots + 1

-- of two of one agent the one that stands first was begun first
abbrev pub AreInOrderIn : List (Option JobOutcome) → Type 0
AreInOrderIn slots = (i j : ℕ) (a b : JobOutcome) → slice_get slots i ≡ Some (Some a) → slice_get slots j ≡ Some (Some b) → a.agent ≡ b.agent → i < j → a.count < b.count

-- all are of these agents
abbrev pub AreOfThese : List ℕ → List (Option JobOutcome) → Type 0
AreOfThese numbers slots = (i : ℕ) (a : JobOutcome) → slice_get slots i ≡ Some (Some a) → Contains numbers a.agent

-- or of this agent, with a count below, and at a place below
abbrev pub AreBelow : List ℕ → ℕ → ℕ → ℕ → List (Option JobOutcome) → Type 0
AreBelow numbers agent low floor slots = (i : ℕ) (a : JobOutcome) → slice_get slots i ≡ Some (Some a) → Contains numbers a.agent ⊎ ((a.agent ≡ agent) × (a.count < low) × (i < floor))

-- an outcome was put at a place that had none
pub record IsPut (old : List (Option JobOutcome)) (place : ℕ) (outcome : JobOutcome) (new : List (Option JobOutcome)) : Type 0 where
  pub was : slice_get old place ≡ Some None
  pub is : new ≡ slice_set old place (Some outcome)

-- outcomes stay in order
abbrev pub StayInOrder : ℕ → List JobDone → List (Option JobOutcome) → List (Option JobOutcome) → Type 0
StayInOrder agent ds old new =
    (numbers : List ℕ) (low high floor roof : ℕ) → ¬ (Contains numbers agent) → RiseBetween low ds high → RiseInPlace floor ds roof → AreInOrderIn old
    → AreBelow numbers agent low floor old → AreInOrderIn new × ((upper top : ℕ) × AreBelow numbers agent upper top new)

abbrev pub AreNone : List (Option JobOutcome) → Type 0
AreNone [] = Unit {0}
AreNone (slot ∷ later) = (slot ≡ None) × AreNone later
