-- A map with its free places.
use Rattle.std.specs.Prelude.{ℕ, List}

-- the pairs in the order of their keys, and how many new keys the map takes without memory
pub record Roomy (K V : Type 0) : Type 0 where
  pub pairs : List (K × V)
  pub room : ℕ
