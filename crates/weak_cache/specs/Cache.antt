-- A cache as one list, the newest entry first: what is found there, and what a call leaves of it.
use Rattle.std.specs.Prelude.{ℕ, ◌-◌, ◌≤◌, ◌==◌, nat_lt, nat_le, Bool, ◌&&◌, if◌then◌else◌, [], ◌∷◌, length, filter, option_map, is_some, Option, Some, None}
use Rattle.suite_content.specs.declared.content.Content.{Content}
use Rattle.suite_prefix.specs.declared.copies.Prefix.{Prefix}
use Rattle.weak_cache.specs.Entries.{Entry, Cache, size_of, sum_of, is_at, is_of, list_of, forgotten, entry_of, without}

-- how many bytes all sites may keep, how many one site may, and how many entries there may be
pub record Limits : Type 0 where
  pub budget : ℕ
  pub quota : ℕ
  pub slots : ℕ

-- a cache with its limits, which never change
pub record Limited : Type 0 where
  pub limits : Limits
  pub entries : Cache

-- what holds of every cache
pub record IsWithin (cache : Limited) : Type 0 where
  pub budget : sum_of cache.entries ≤ cache.limits.budget
  pub quota : (site : ℕ) → sum_of (list_of site cache.entries) ≤ cache.limits.quota
  pub slots : length cache.entries ≤ cache.limits.slots
  pub once : (site suite : ℕ) → length (filter (is_of site suite) cache.entries) ≤ 1

-- ---- look-ups

-- the prefix that a site keeps of a suite
abbrev pub hint : Cache → ℕ → ℕ → Option Prefix
hint cache site suite = option_map (λ (entry : Entry). entry.prefix) (entry_of cache site suite)

-- the version of the content that a site keeps of a suite
abbrev pub version : Cache → ℕ → ℕ → Option ℕ
version cache site suite = option_map (λ (entry : Entry). entry.dver) (entry_of cache site suite)

-- the content, where it is of this version
abbrev pub at_version : ℕ → Option Entry → Option Content
at_version dver (Some entry) = if entry.dver == dver then Some entry.content else None
at_version dver None = None

-- the content that a site keeps of a suite at a version
abbrev pub content_at : Cache → ℕ → ℕ → ℕ → Option Content
content_at cache site suite dver = at_version dver (entry_of cache site suite)

-- the cache with an entry as the newest
abbrev pub in_front : Option Entry → ℕ → ℕ → Cache → Cache
in_front (Some entry) site suite cache = entry ∷ without site suite cache
in_front None site suite cache = cache

-- the cache once what a site keeps of a suite was used
abbrev pub used : ℕ → ℕ → Cache → Cache
used site suite cache = in_front (entry_of cache site suite) site suite cache

-- the cache once a content was looked for: it was used if it was found
abbrev pub searched : ℕ → ℕ → ℕ → Cache → Cache
searched site suite dver cache = if is_some (content_at cache site suite dver) then used site suite cache else cache

-- ---- put

-- of a site's entries the newest that have room together; those of other sites stay
abbrev pub within_quota : ℕ → ℕ → Cache → Cache
within_quota site room [] = []
within_quota site room (entry ∷ cache) =
    if is_at site entry
    then if nat_le (size_of entry.content) room
    then entry ∷ within_quota site (room - size_of entry.content) cache
    else forgotten site cache
    else entry ∷ within_quota site room cache

-- the newest entries that have room together, and slots
abbrev pub within_budget : ℕ → ℕ → Cache → Cache
within_budget room slots [] = []
within_budget room slots (entry ∷ cache) =
    if nat_le (size_of entry.content) room && nat_lt 0 slots
    then entry ∷ within_budget (room - size_of entry.content) (slots - 1) cache
    else []

-- whether a content has room at all
abbrev pub has_room : Limits → Content → Bool
has_room limits content = nat_le (size_of content) limits.budget && nat_le (size_of content) limits.quota && nat_lt 0 limits.slots

-- A new entry as the newest, in place of what the site kept of the suite, where it has room at all. Then the site's
-- oldest go until the others have room in its quota, and the oldest of all until the others have room in the budget
-- and slots.
abbrev pub put : Limits → Entry → Cache → Cache
put limits entry cache =
    if has_room limits entry.content
    then within_budget limits.budget limits.slots (within_quota entry.site limits.quota (entry ∷ without entry.site entry.suite cache))
    else without entry.site entry.suite cache
