-- The next item of histories: the first of its server, which stands before the first of every other.
use Rattle.std.specs.Prelude.{◌≡◌, ℕ, ◌<◌, ◌≤◌, List, [], ◌∷◌, length, slice_set}
use Rattle.server_lock.specs.declared.item.Item.{Item}
use Rattle.run_certify.specs.Merges.{ItemAt, MayPrecede, history_of}

abbrev pub at_server : ℕ → Item → ItemAt
at_server server item = record { server = server; item = item }

-- the first items of the servers below a bound may stand after this one
abbrev pub IsLeastBelow : ℕ → List (List Item) → ℕ → Item → Type 0
IsLeastBelow bound histories server item =
    (other : ℕ) (first : Item) (later : List Item) → other < bound → history_of histories other ≡ first ∷ later → MayPrecede (at_server server item) (at_server other first)

-- those of all servers
abbrev pub IsLeast : List (List Item) → ℕ → Item → Type 0
IsLeast histories server item =
    (other : ℕ) (first : Item) (later : List Item) → history_of histories other ≡ first ∷ later → MayPrecede (at_server server item) (at_server other first)

-- the first item of a server, with what comes after it
pub record IsFirst (histories : List (List Item)) (server : ℕ) (item : Item) (later : List Item) : Type 0 where
  pub there : server < length histories
  pub first : history_of histories server ≡ item ∷ later

-- the least of the first items below a bound
pub record IsFirstBelow (bound : ℕ) (histories : List (List Item)) (server : ℕ) (item : Item) (later : List Item) : Type 0 where
  pub low : server < bound
  pub is : IsFirst histories server item later
  pub least : IsLeastBelow bound histories server item

abbrev pub NoneBelow : ℕ → List (List Item) → Type 0
NoneBelow bound histories = (server : ℕ) → server < bound → history_of histories server ≡ []

-- The next item was taken: it was the first of its server, and what is left there starts with no lesser stamp, nor does any other history.
pub record IsTaken (was : List (List Item)) (server : ℕ) (item : Item) (now : List (List Item)) : Type 0 where
  pub later : List Item
  pub is : IsFirst was server item later
  pub before : IsLeast was server item
  pub set : now ≡ slice_set was server later
  pub after : IsLeast now server item

-- the least of all first items
pub record IsNext (histories : List (List Item)) (server : ℕ) (item : Item) (later : List Item) : Type 0 where
  pub is : IsFirst histories server item later
  pub least : IsLeast histories server item

-- nothing is left of the histories
abbrev pub AreAllPlayed : List (List Item) → Type 0
AreAllPlayed histories = (server : ℕ) → history_of histories server ≡ []

-- the first of two stamps is kept where it is no greater
pub record Lesser (before next : ℕ) (Keeps Takes : Type 0) : Type 0 where
  pub keeps : before ≤ next → Keeps
  pub takes : next < before → Takes
