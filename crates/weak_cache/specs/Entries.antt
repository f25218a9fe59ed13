-- What a cache keeps: entries of sites and suites, the newest first.
use Rattle.std.specs.Prelude.{ℕ, ◌+◌, ◌==◌, Bool, ◌&&◌, not, List, [], ◌∷◌, length, map, filter, find, Option}
use Rattle.std.specs.List.{list_any}
use Rattle.suite_content.specs.declared.content.Content.{Content}
use Rattle.suite_content.specs.declared.content.Content.TheVariants.{Bytes, Names}
use Rattle.suite_prefix.specs.declared.copies.Prefix.{Prefix}
use Rattle.suite_prefix.specs.Bytes.{content_bytes}

-- what a site keeps of a suite: a prefix that it had, and the content that it had at a version; the two need not be of one time
pub record Entry : Type 0 where
  pub site : ℕ
  pub suite : ℕ
  pub prefix : Prefix
  pub dver : ℕ
  pub content : Content

-- an entry with these fields
abbrev pub entry_with : ℕ → ℕ → Prefix → ℕ → Content → Entry
entry_with site suite prefix dver content = record { site = site; suite = suite; prefix = prefix; dver = dver; content = content }

-- the entries, the newest first
abbrev pub Cache : Type 0
Cache = List Entry

-- how many sites an agent has at most
abbrev pub max_sites : ℕ
max_sites = 16

-- ---- sizes

-- how many bytes a content takes: as many as in a copy, but for the length of a file
abbrev pub size_of : Content → ℕ
size_of (Bytes bytes) = length bytes
size_of (Names names) = length (content_bytes (Names names))

-- and those of all entries together
abbrev pub sum_of : Cache → ℕ
sum_of [] = 0
sum_of (entry ∷ cache) = size_of entry.content + sum_of cache

-- ---- the entries of a site, and of a suite there

abbrev pub is_at : ℕ → Entry → Bool
is_at site entry = entry.site == site

abbrev pub is_of : ℕ → ℕ → Entry → Bool
is_of site suite entry = (entry.site == site) && (entry.suite == suite)

-- a site's list
abbrev pub list_of : ℕ → Cache → Cache
list_of site cache = filter (is_at site) cache

-- whether a site keeps anything
abbrev pub keeps : ℕ → Cache → Bool
keeps site cache = list_any (is_at site) cache

-- the entries of all other sites
abbrev pub forgotten : ℕ → Cache → Cache
forgotten site cache = filter (λ entry. not (is_at site entry)) cache

-- what a site keeps of a suite
abbrev pub entry_of : Cache → ℕ → ℕ → Option Entry
entry_of cache site suite = find (is_of site suite) cache

-- all but this
abbrev pub without : ℕ → ℕ → Cache → Cache
without site suite cache = filter (λ entry. not (is_of site suite entry)) cache

-- of which sites and suites there are entries, in their order
abbrev pub keys_of : Cache → List (ℕ × ℕ)
keys_of cache = map (λ entry. (entry.site, entry.suite)) cache
