-- What a contract sees of the rings: which nodes are of which site, and which are free.
use Rattle.std.specs.Prelude.{◌≡◌, ℕ, ◌+◌, ◌<◌, ◌==◌, not, if◌then◌else◌, Bool, true, false, List, [], ◌∷◌, length, map, filter, find, Option, Some, None}
use denote.RawPtr.{Ptr}
use Rattle.recency.specs.declared.node.Node.{Node}
use Rattle.recency.specs.Paths.{follow}
use Rattle.recency.specs.Rings.{older_in, list_at, Ringed}

-- a node by its number, with its site
abbrev pub Mark : Type 0
Mark = ℕ × ℕ

-- how many nodes there are, those in use with their sites from the newest to the oldest, and the free ones
pub record Listed : Type 0 where
  pub slots : ℕ
  pub order : List Mark
  pub free : List ℕ

abbrev pub keys : List Mark → List ℕ
keys order = map (λ (e : Mark). e.0) order

abbrev pub is_of_site : ℕ → Mark → Bool
is_of_site site e = e.1 == site

-- those of one site
abbrev pub of_site : ℕ → List Mark → List Mark
of_site site order = filter (is_of_site site) order

-- a smaller list: of a site, or of the free ones
abbrev pub own_of : List Mark → List ℕ → ℕ → List ℕ
own_of order free list = if list == 16 then free else keys (of_site list order)

-- all but one
abbrev pub without_slot : ℕ → List Mark → List Mark
without_slot slot order = filter (λ (e : Mark). not (e.0 == slot)) order

abbrev pub first_if_some : Option Mark → List Mark → List Mark → List Mark
first_if_some (Some e) rest order = e ∷ rest
first_if_some None rest order = order

-- one of them is the newest now
abbrev pub touched : ℕ → List Mark → List Mark
touched slot order = first_if_some (find (λ (e : Mark). e.0 == slot) order) (without_slot slot order) order

-- the oldest
abbrev pub last_of : {X : Type 0} → List X → Option X
last_of [] = None
last_of (x ∷ []) = Some x
last_of (x ∷ (y ∷ ys)) = last_of (y ∷ ys)

-- the newest
abbrev pub first_of : {X : Type 0} → List X → Option X
first_of [] = None
first_of (x ∷ xs) = Some x

-- the next older one
abbrev pub older_than : ℕ → List Mark → Option Mark
older_than slot [] = None
older_than slot (e ∷ es) = if e.0 == slot then first_of es else older_than slot es

-- each is of one of the 16 sites
abbrev pub Sited : List Mark → Type 0
Sited [] = Unit {0}
Sited (e ∷ es) = (e.1 < 16) × Sited es

-- what the nodes tell
abbrev pub listed_in : ℕ → Ptr → List Node → Listed
listed_in slots base nodes = record {
  slots = slots;
  order = map (λ k. (k, list_at nodes k)) (follow (older_in true base nodes) (slots + 17) slots (older_in true base nodes (slots + 17)));
  free = follow (older_in false base nodes) (slots + 16) slots (older_in false base nodes (slots + 16));
}

-- the nodes are in the rings that this tells
pub record IsListed (slots : ℕ) (base : Ptr) (nodes : List Node) (order : List Mark) (free : List ℕ) : Type 0 where
  pub ringed : Ringed slots base nodes (keys order) (own_of order free)
  pub sited : Sited order
  pub count : length order + length free ≡ slots

-- the nodes are in the rings that they tell
abbrev pub IsFound : ℕ → Ptr → List Node → Type 0
IsFound slots base nodes = IsListed slots base nodes (listed_in slots base nodes).order (listed_in slots base nodes).free
