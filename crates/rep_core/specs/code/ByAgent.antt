-- A map of transactions that is kept by agent: one map for each agent, of the transactions that it numbered.
use Rattle.std.specs.Prelude.{◌≡◌, ◌≢◌, ℕ, ◌%◌, List, [], ◌∷◌, map, get_or, None}
use Rattle.std.specs.Ordering.{nat_cmp}
use Rattle.suite_prefix.specs.SettingsRules.{max_agents}
use Rattle.sorted_map.specs.SortedMap.{get, insert}
use Rattle.sorted_map.specs.Roomy.{Roomy}

-- the agent that numbered a transaction
abbrev pub agent_of : ℕ → ℕ
agent_of t = t % max_agents

-- room for a transaction, of the rooms of the agents
abbrev pub room_for : ℕ → List ℕ → ℕ
room_for t rooms = get_or rooms (agent_of t) 0

module _ {V : Type 0} where
  abbrev pub empty : Roomy ℕ V
  empty = record { pairs = []; room = 0 }

  -- the pairs of an agent
  abbrev pub pairs_at : List (Roomy ℕ V) → ℕ → List (ℕ × V)
  pairs_at maps agent = (get_or maps agent empty).pairs

  -- the room of each agent
  abbrev pub rooms_of : List (Roomy ℕ V) → List ℕ
  rooms_of maps = map (λ m. m.room) maps

  -- these pairs put into others
  abbrev pub with_pairs : List (ℕ × V) → List (ℕ × V) → List (ℕ × V)
  with_pairs [] others = others
  with_pairs (pair ∷ pairs) others = insert nat_cmp (with_pairs pairs others) pair.0 pair.1

  -- the pairs of all agents, in the order of their transactions
  abbrev pub merged : List (Roomy ℕ V) → List (ℕ × V)
  merged [] = []
  merged (m ∷ ms) = with_pairs m.pairs (merged ms)

  -- each agent's map has only what this agent numbered
  abbrev pub IsByAgent : List (Roomy ℕ V) → Type 0
  IsByAgent maps = (agent t : ℕ) → agent_of t ≢ agent → get nat_cmp (pairs_at maps agent) t ≡ None
