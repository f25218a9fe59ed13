-- The entries on a shelf, and the index of their slots.
use Rattle.std.specs.Prelude.{◌≡◌, ℕ, ◌≤◌, ◌<◌, ◌^◌, ◌==◌, ◌&&◌, Bool, if◌then◌else◌, List, [], ◌∷◌, length, map, filter, find, Option, Some, None, option_map}
use Rattle.recency.specs.Shelf.{Entry as Slotted', is_in, value_of}
use Rattle.indexmap.specs.IndexMap.{get_by}
use Rattle.weak_cache.specs.declared.kept.Kept.{Kept}
use Rattle.weak_cache.specs.Entries.{Entry, Cache, is_of}
use Rattle.weak_cache.specs.code.Counts.{IsTally}

-- an entry with its slot
abbrev pub Slotted : Type 0
Slotted = Slotted' Entry

-- the entries alone
abbrev pub values : List Slotted → Cache
values shelved = map (λ (s : Slotted). s.value) shelved

-- whether two keys are the same
abbrev pub same_key : ℕ × ℕ → ℕ × ℕ → Bool
same_key a b = (a.0 == b.0) && (a.1 == b.1)

abbrev pub has_key : ℕ → ℕ → Slotted → Bool
has_key site suite s = is_of site suite s.value

-- the slot of what a site keeps of a suite
abbrev pub slot_in : ℕ → ℕ → List Slotted → Option ℕ
slot_in site suite shelved = option_map (λ (s : Slotted). s.slot) (find (has_key site suite) shelved)

-- the shelf has each entry for its site
abbrev pub Sited : List Slotted → Type 0
Sited [] = Unit {0}
Sited (s ∷ shelved) = (s.site ≡ s.value.site) × Sited shelved

-- those from a slot on
abbrev pub from_slot : ℕ → List Slotted → List Slotted
from_slot slot [] = []
from_slot slot (s ∷ shelved) = if is_in slot s then s ∷ shelved else from_slot slot shelved

abbrev pub from_on : Option ℕ → List Slotted → List Slotted
from_on (Some slot) shelved = from_slot slot shelved
from_on None shelved = []

-- the same entry stands at a slot of one shelf and at a slot of another
pub record HaveSame (own : List Slotted) (slot : ℕ) (theirs : List Slotted) (place : ℕ) : Type 0 where
  pub entry : Entry
  pub stands : value_of slot own ≡ Some entry
  pub stands_there : value_of place theirs ≡ Some entry

-- the index has the slot of each key, and the counts are those of the entries
pub record IsKept (kept : Kept) : Type 0 where
  pub known : (site suite : ℕ) → get_by (same_key (site, suite)) kept.index ≡ slot_in site suite kept.shelf.entries
  pub sited : Sited kept.shelf.entries
  pub counted : IsTally kept.tally (values kept.shelf.entries)
  pub once : (site suite : ℕ) → length (filter (is_of site suite) (values kept.shelf.entries)) ≤ 1
  pub slots : kept.slots ≡ kept.shelf.slots
  pub small : kept.slots < 2 ^ 64
