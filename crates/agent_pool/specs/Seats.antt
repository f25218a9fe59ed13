-- The passes of a pool's agents.
use Rattle.std.specs.Prelude.{◌≡◌, ◌≢◌, ℕ, List, [], ◌∷◌, ◌++◌, All, map, slice_get, Option, Some}
use Rattle.server_lock.specs.Counts.{passes_by}
use Rattle.server_lock.specs.Passes.{Held}
use Rattle.agent_pool.specs.Transcripts.{Played, GoesOn, IsIdle, IsLonger, Leads, at_rest, number_of}

-- no number stands twice
abbrev pub AreDistinct : List ℕ → Type 0
AreDistinct numbers = (i j n : ℕ) → slice_get numbers i ≡ Some n → slice_get numbers j ≡ Some n → i ≡ j

abbrev pub numbers_of : List Played → List ℕ
numbers_of players = map (λ (player : Played). number_of player) players

-- the passes of an agent
abbrev pub passes_for : ℕ → List Held → List Held
passes_for agent passes = passes_by (Some agent) passes

-- there is a pass of this agent
abbrev pub HasPass : List Held → Played → Type 0
HasPass passes player = passes_for (number_of player) passes ≢ []

-- agents who can work with these passes: no two of one number, all idle, and each has its pass
pub record AreReady (passes : List Held) (players : List Played) : Type 0 where
  pub distinct : AreDistinct (numbers_of players)
  pub idle : All IsIdle players
  pub have : All (HasPass passes) players

-- it is no agent of these: another, or the operator
abbrev pub IsOther : List Played → Option ℕ → Type 0
IsOther [] asker = Unit {0}
IsOther (player ∷ players) asker = (asker ≢ Some (number_of player)) × IsOther players asker

-- An agent went on, as the agent function does of what it was told. Its pass went on, and came back; what other passes it had are as they were.
pub record WentOn (old new : List Held) (was now : Played) : Type 0 where
  pub longer : IsLonger was now
  pub leads : Leads was.agent.fixed (at_rest was.agent.state) longer.rest (at_rest now.agent.state)
  pub others : List Held
  pub pass : Held
  pub later : Held
  pub old_are : passes_for (number_of was) old ≡ others ++ pass ∷ []
  pub new_are : passes_for (number_of was) new ≡ others ++ later ∷ []
  pub went : GoesOn longer.rest pass later
