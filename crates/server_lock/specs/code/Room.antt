-- The room that servers keep for closing them.
use Rattle.std.specs.Prelude.{◌≡◌, ℕ, ◌≤◌}
use Rattle.vote_core.specs.Validity.{max_servers}

-- nothing is in it yet, and it is for so many
pub record IsRoom (many kept capacity : ℕ) : Type 0 where
  pub none : kept ≡ 0
  pub room : many ≤ capacity

-- there is a lock for each server, and room for what stands there and for a history of each
pub record HasRoom (servers locks held held_capacity histories histories_capacity : ℕ) : Type 0 where
  pub each : locks ≡ servers
  pub few : locks ≤ max_servers
  pub to_take : IsRoom locks held held_capacity
  pub to_answer : IsRoom locks histories histories_capacity
