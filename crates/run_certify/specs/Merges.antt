-- The items of all histories, merged: ordered by stamps and then by servers, those of each server in their own order.
use Rattle.std.specs.Prelude.{◌≡◌, ◌⊎◌, ℕ, ◌<◌, ◌≤◌, nat_eq, if◌then◌else◌, List, [], ◌∷◌, slice_index_or, Option, Some, None}
use Rattle.std.specs.List.{filter_map}
use Rattle.server_lock.specs.declared.item.Item.{Item}

-- an item, with the server that served it
pub record ItemAt : Type 0 where
  pub server : ℕ
  pub item : Item

-- one may stand before another: by stamps, and then by servers
abbrev pub MayPrecede : ItemAt → ItemAt → Type 0
MayPrecede a b = (a.item.stamp < b.item.stamp) ⊎ ((a.item.stamp ≡ b.item.stamp) × (a.server ≤ b.server))

-- whether an item is of a server
abbrev pub of_server : ℕ → ItemAt → Option Item
of_server server one = if nat_eq one.server server then Some one.item else None

-- the items of a server, in their order
abbrev pub items_of : ℕ → List ItemAt → List Item
items_of server items = filter_map (λ one. of_server server one) items

-- a server's history; there is none of a server that is not there
abbrev pub history_of : List (List Item) → ℕ → List Item
history_of histories server = slice_index_or histories server []

-- each may stand before the next
abbrev pub IsOrdered : List ItemAt → Type 0
IsOrdered [] = Unit {0}
IsOrdered (one ∷ []) = Unit {0}
IsOrdered (one ∷ next ∷ later) = MayPrecede one next × IsOrdered (next ∷ later)

-- These are all items of the histories: each may stand before the next, and those of each server are its history. So a history whose stamps fall
-- has no merge.
pub record IsMerge (histories : List (List Item)) (items : List ItemAt) : Type 0 where
  pub ordered : IsOrdered items
  pub each : (server : ℕ) → items_of server items ≡ history_of histories server
