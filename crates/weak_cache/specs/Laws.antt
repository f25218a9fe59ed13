-- What holds of every cache, whatever was asked of it.
use Rattle.std.specs.Prelude.{◌≡◌, ℕ, ◌⊎◌, true, false, List, [], Contains, Some}
use Rattle.suite_content.specs.declared.content.Content.{Content}
use Rattle.suite_prefix.specs.declared.copies.Prefix.{Prefix}
use Rattle.weak_cache.specs.Entries.{Entry, Cache, is_at, is_of, entry_of, forgotten}
use Rattle.weak_cache.specs.Cache.{Limits, hint, content_at, searched, put}
use Rattle.weak_cache.specs.Calls.{Call, run, WasPut}

-- a prefix that is found after some calls was put with the entry that was last put there
abbrev pub HintWasPut : Type 0
HintWasPut =
    (limits : Limits) (calls : List Call) (site suite : ℕ) (prefix : Prefix) → hint (run limits calls []) site suite ≡ Some prefix
    → (entry : Entry) × WasPut site suite entry calls × (entry.prefix ≡ prefix)

-- and so was a content, at that version
abbrev pub ContentWasPut : Type 0
ContentWasPut =
    (limits : Limits) (calls : List Call) (site suite dver : ℕ) (content : Content) → content_at (run limits calls []) site suite dver ≡ Some content
    → (entry : Entry) × WasPut site suite entry calls × (entry.dver ≡ dver) × (entry.content ≡ content)

pub record FoundWasPut : Type 0 where
  pub hint : HintWasPut
  pub content : ContentWasPut

-- whatever was looked for, every look-up finds what it found before
pub record SearchKeepsAll : Type 0 where
  pub entry : (site suite dver other number : ℕ) (cache : Cache) → entry_of (searched site suite dver cache) other number ≡ entry_of cache other number
  pub hint : (site suite dver other number : ℕ) (cache : Cache) → hint (searched site suite dver cache) other number ≡ hint cache other number
  pub content : (site suite dver other number at : ℕ) (cache : Cache) → content_at (searched site suite dver cache) other number at ≡ content_at cache other number at

-- an entry comes by a put alone, and none of a site is left once it is forgotten; a hint is that of an entry
pub record EntriesComeFromPuts : Type 0 where
  pub put : (limits : Limits) (new : Entry) (cache : Cache) (entry : Entry) → Contains (put limits new cache) entry → (entry ≡ new) ⊎ Contains cache entry
  pub searched : (site suite dver : ℕ) (cache : Cache) (entry : Entry) → Contains (searched site suite dver cache) entry → Contains cache entry
  pub forgotten : (site : ℕ) (cache : Cache) (entry : Entry) → Contains (forgotten site cache) entry → Contains cache entry × (is_at site entry ≡ false)
  pub hint : (cache : Cache) (site suite : ℕ) (prefix : Prefix) → hint cache site suite ≡ Some prefix → (entry : Entry) × Contains cache entry × (is_of site suite entry ≡ true) × (entry.prefix ≡ prefix)
