-- Lists of calls of a cache.
use Rattle.std.specs.Prelude.{◌≡◌, ℕ, ◌==◌, Bool, true, not, List, [], ◌∷◌, ◌++◌}
use Rattle.std.specs.List.{list_all}
use Rattle.weak_cache.specs.Entries.{Entry, Cache, is_of, forgotten}
use Rattle.weak_cache.specs.Cache.{Limits, searched, put}

-- what is asked of a cache, but for what leaves it as it is
pub data Call : Type 0 where
  ContentAt : ℕ → ℕ → ℕ → Call
  Put : Entry → Call
  Forget : ℕ → Call

-- the cache after a call
abbrev pub after : Limits → Call → Cache → Cache
after limits (ContentAt site suite dver) cache = searched site suite dver cache
after limits (Put entry) cache = put limits entry cache
after limits (Forget site) cache = forgotten site cache

-- and after a list of calls, the first one first
abbrev pub run : Limits → List Call → Cache → Cache
run limits [] cache = cache
run limits (call ∷ calls) cache = run limits calls (after limits call cache)

-- whether a call puts nothing for a site and a suite and does not forget the site
abbrev pub spares : ℕ → ℕ → Call → Bool
spares site suite (ContentAt other number dver) = true
spares site suite (Put entry) = not (is_of site suite entry)
spares site suite (Forget other) = not (site == other)

-- among the calls an entry was put for a site and a suite, and the calls since then spared it
pub record WasPut (site suite : ℕ) (entry : Entry) (calls : List Call) : Type 0 where
  pub before : List Call
  pub since : List Call
  pub parts : calls ≡ before ++ Put entry ∷ since
  pub own : is_of site suite entry ≡ true
  pub spared : list_all (spares site suite) since ≡ true
