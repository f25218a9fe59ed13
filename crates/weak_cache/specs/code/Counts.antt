-- How many entries there are, and how many bytes they take.
use Rattle.std.specs.Prelude.{◌≡◌, ◌<◌, ◌++◌, ◌∷◌, ℕ, length, slice_index}
use Rattle.weak_cache.specs.declared.tally.Sums.{Sums}
use Rattle.weak_cache.specs.Entries.{Entry, Cache, list_of, size_of, sum_of}

-- the counts of some entries
pub record IsTally (tally : Sums) (cache : Cache) : Type 0 where
  pub count : tally.count ≡ length cache
  pub sum : tally.sum ≡ sum_of cache
  pub sites : (site : ℕ) → site < 16 → slice_index tally.sites site ≡ sum_of (list_of site cache)
  pub all : length tally.sites ≡ 16

-- an entry is of this site, and takes so many bytes
pub record IsEntry (entry : Entry) (site size : ℕ) : Type 0 where
  pub own_site : entry.site ≡ site
  pub own_size : size_of entry.content ≡ size

-- such an entry is among those that are counted
pub record Counts (tally : Sums) (site size : ℕ) : Type 0 where
  pub newer : Cache
  pub entry : Entry
  pub older : Cache
  pub counted : IsTally tally (newer ++ entry ∷ older)
  pub is : IsEntry entry site size

-- the counts before and after such an entry is no longer counted
abbrev pub Uncounted : Sums → Sums → ℕ → ℕ → Type 0
Uncounted before after site size =
    (newer : Cache) (entry : Entry) (older : Cache) → IsTally before (newer ++ entry ∷ older) → IsEntry entry site size → IsTally after (newer ++ older)
