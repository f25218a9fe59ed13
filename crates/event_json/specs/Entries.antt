-- What caches keep, and what changed there, as JSON has it.
use Rattle.std.specs.Prelude.{◌≡◌, ℕ, List, [], ◌∷◌, ◌++◌, codes, map, Option, Some, None}
use Rattle.suite_prefix.specs.declared.copies.Prefix.{Prefix}
use Rattle.weak_cache.specs.Entries.{Cache, keys_of}
use Rattle.weak_cache.specs.Cache.{hint, version}
use Rattle.event_json.specs.declared.entries.Kept.{Kept}
use Rattle.event_json.specs.Changes.{IsEndChange}
use Rattle.event_json.specs.Strings.{listed, member}

-- the version of a prefix that is kept
abbrev pub pver_of : Option Prefix → Option ℕ
pver_of None = None
pver_of (Some prefix) = Some prefix.pver

-- what a site keeps of a suite
abbrev pub kept_of : Cache → ℕ × ℕ → Kept
kept_of cache key = record {
  site = key.0;
  suite = key.1;
  prefix = pver_of (hint cache key.0 key.1);
  content = version cache key.0 key.1;
}

-- all that a cache keeps, the newest first
abbrev pub kept_in : Cache → List Kept
kept_in cache = map (kept_of cache) (keys_of cache)

-- ---- texts

abbrev pub hint_text : Option ℕ → List ℕ
hint_text None = []
hint_text (Some pver) = member (codes ",\"prefix\":") pver

abbrev pub kept_text : Option ℕ → List ℕ
kept_text None = []
kept_text (Some dver) = member (codes ",\"content\":") dver

-- an entry, by its site and its suite, with the versions that are kept
abbrev pub entry_text : Kept → List ℕ
entry_text kept =
    member (codes "{\"site\":") kept.site ++ member (codes ",\"suite\":") kept.suite ++ hint_text kept.prefix ++ kept_text kept.content ++ codes "}"

abbrev pub cache_text : List Kept → List ℕ
cache_text all = codes "[" ++ listed entry_text all ++ codes "]"

-- an entry that went
abbrev pub dropped_entry_text : Kept → List ℕ
dropped_entry_text kept = member (codes "{\"site\":") kept.site ++ member (codes ",\"suite\":") kept.suite ++ codes "}"

-- the member of entries that went, where there are some
abbrev pub dropped_text : List Kept → List ℕ
dropped_text [] = []
dropped_text (kept ∷ all) = codes ",\"dropped\":[" ++ listed dropped_entry_text (kept ∷ all) ++ codes "]"

-- and of those that were put in front, one after another
abbrev pub put_text : List Kept → List ℕ
put_text [] = []
put_text (kept ∷ all) = codes ",\"put\":" ++ cache_text (kept ∷ all)

-- ---- changes

-- What changed from one list to the other is told, the oldest first in both: which went, and which came in front of all that stayed.
pub record TellsCacheChange (old new : List Kept) (before after : List ℕ) : Type 0 where
  pub gone : List Kept
  pub came : List Kept
  pub change : IsEndChange old new gone came
  pub told : after ≡ before ++ dropped_text gone ++ put_text came
