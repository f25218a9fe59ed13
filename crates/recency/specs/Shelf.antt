-- What a contract sees of a shelf: its entries, the newest first.
use Rattle.std.specs.Prelude.{ℕ, ◌<◌, ◌≤◌, ◌==◌, not, if◌then◌else◌, Bool, List, [], ◌∷◌, length, map, filter, find, filter_map, Option, Some, None, option_map, slice_index_or}
use Rattle.recency.specs.Paths.{In, Once}
use Rattle.recency.specs.Order.{Mark, Listed, first_of}

-- a value, with its slot and its site
pub record Entry (V : Type 0) : Type 0 where
  pub slot : ℕ
  pub site : ℕ
  pub value : V

-- how many slots there are, and the entries from the newest to the oldest
pub record Shelf (V : Type 0) : Type 0 where
  pub slots : ℕ
  pub entries : List (Entry V)

-- how many sites there are at most
abbrev pub max_sites : ℕ
max_sites = 16

module _ {V : Type 0} where
  abbrev pub is_in : ℕ → Entry V → Bool
  is_in slot entry = entry.slot == slot

  abbrev pub is_of : ℕ → Entry V → Bool
  is_of site entry = entry.site == site

  -- a site's chain
  abbrev pub of_site : ℕ → List (Entry V) → List (Entry V)
  of_site site entries = filter (is_of site) entries

  -- what a slot holds
  abbrev pub entry_of : ℕ → List (Entry V) → Option (Entry V)
  entry_of slot entries = find (is_in slot) entries

  abbrev pub value_of : ℕ → List (Entry V) → Option V
  value_of slot entries = option_map (λ (entry : Entry V). entry.value) (entry_of slot entries)

  -- the entry behind that of a slot
  abbrev pub older_than : ℕ → List (Entry V) → Option (Entry V)
  older_than slot [] = None
  older_than slot (entry ∷ entries) = if is_in slot entry then first_of entries else older_than slot entries

  -- all but that
  abbrev pub without : ℕ → List (Entry V) → List (Entry V)
  without slot entries = filter (λ entry. not (is_in slot entry)) entries

  abbrev pub in_front : Option (Entry V) → ℕ → List (Entry V) → List (Entry V)
  in_front (Some entry) slot entries = entry ∷ without slot entries
  in_front None slot entries = entries

  -- what a slot holds is the newest, if it holds anything
  abbrev pub touched : ℕ → List (Entry V) → List (Entry V)
  touched slot entries = in_front (entry_of slot entries) slot entries

  -- no slot is there twice, slots and sites are below their numbers
  pub record IsValid (shelf : Shelf V) : Type 0 where
    pub once : Once (map (λ (entry : Entry V). entry.slot) shelf.entries)
    pub slots : (slot : ℕ) → In slot (map (λ (entry : Entry V). entry.slot) shelf.entries) → slot < shelf.slots
    pub sites : (site : ℕ) → In site (map (λ (entry : Entry V). entry.site) shelf.entries) → site < max_sites
    pub room : length shelf.entries ≤ shelf.slots

  -- ---- how the fields make it

  abbrev pub entry_with : Mark → Option V → Option (Entry V)
  entry_with e value = option_map (λ v. record { slot = e.0; site = e.1; value = v }) value

  abbrev pub entries_of : List (Option V) → List Mark → List (Entry V)
  entries_of values order = filter_map (λ (e : Mark). entry_with e (slice_index_or values e.0 None)) order

  abbrev pub shelf_in : Listed → List (Option V) → Shelf V
  shelf_in rings values = record { slots = rings.slots; entries = entries_of values rings.order }
