-- Agents with their passes, which are taken out of others.
use Rattle.std.specs.Prelude.{◌≡◌, ◌≢◌, ℕ, List, [], ◌∷◌, ◌++◌, Option, Some}
use Rattle.std.specs.List.{AllZip}
use Rattle.server_lock.specs.Counts.{passes_by}
use Rattle.server_lock.specs.Passes.{Held}
use Rattle.agent_pool.specs.declared.work.SeatedAgent.{SeatedAgent}
use Rattle.agent_pool.specs.Seats.{IsOther, passes_for}
use Rattle.agent_pool.specs.Transcripts.{Played, number_of}

-- an agent's pass, the last of its passes, was taken out
pub record IsTakenOut (agent : ℕ) (old new : List Held) (pass : Held) : Type 0 where
  pub own : passes_for agent old ≡ passes_for agent new ++ pass ∷ []
  pub others : (asker : Option ℕ) → asker ≢ Some agent → passes_by asker new ≡ passes_by asker old
  pub of : pass.agent ≡ Some agent

-- an agent has its pass
pub record IsSeated (old left : List Held) (player : Played) (seat : SeatedAgent) : Type 0 where
  pub sits : seat.player ≡ player
  pub own : passes_for (number_of player) old ≡ passes_for (number_of player) left ++ seat.pass ∷ []
  pub of : seat.pass.agent ≡ Some (number_of player)

-- all have
pub record AreSeated (old left : List Held) (players : List Played) (seats : List SeatedAgent) : Type 0 where
  pub each : AllZip (IsSeated old left) players seats
  pub others : (asker : Option ℕ) → IsOther players asker → passes_by asker left ≡ passes_by asker old
