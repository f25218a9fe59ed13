-- What each call finds in a site's list and leaves of it: all but the budget goes by that list alone.
use Rattle.std.specs.Prelude.{◌≡◌, ◌≢◌, ℕ, true, if◌then◌else◌, [], ◌∷◌, ◌++◌}
use Rattle.weak_cache.specs.Entries.{Entry, Cache, list_of, forgotten, without}
use Rattle.weak_cache.specs.Cache.{Limits, hint, content_at, searched, within_quota, has_room, put}
use Rattle.weak_cache.specs.LettingGo.{is_above}

-- the entries with a new one as the newest, in place of what its site kept of the suite and within the site's quota; the
-- budget of all is yet to be judged
abbrev pub with_new : Limits → Entry → Cache → Cache
with_new limits entry cache =
    if has_room limits entry.content
    then within_quota entry.site limits.quota (entry ∷ without entry.site entry.suite cache)
    else without entry.site entry.suite cache

-- What a put leaves: of the new entry's site what its list alone comes to, of another site its list, but in both for what
-- the budget evicts. Those are the oldest of all, and no more than must go: with the newest of them there is too much.
pub record PutLeaves (limits : Limits) (entry : Entry) (cache : Cache) : Type 0 where
  pub gone : Cache
  pub parts : with_new limits entry cache ≡ put limits entry cache ++ gone
  pub must : (newest : Entry) (older : Cache) → gone ≡ newest ∷ older → is_above limits (put limits entry cache ++ newest ∷ []) ≡ true
  pub own : with_new limits entry (list_of entry.site cache) ≡ list_of entry.site (put limits entry cache) ++ list_of entry.site gone
  pub others : (site : ℕ) → site ≢ entry.site → list_of site cache ≡ list_of site (put limits entry cache) ++ list_of site gone

pub record SiteLists : Type 0 where
  pub hint : (site suite : ℕ) (cache : Cache) → hint (list_of site cache) site suite ≡ hint cache site suite
  pub content : (site suite dver : ℕ) (cache : Cache) → content_at (list_of site cache) site suite dver ≡ content_at cache site suite dver
  pub searched_own : (site suite dver : ℕ) (cache : Cache) → list_of site (searched site suite dver cache) ≡ searched site suite dver (list_of site cache)
  pub searched_others : (site suite dver other : ℕ) (cache : Cache) → other ≢ site → list_of other (searched site suite dver cache) ≡ list_of other cache
  pub put : (limits : Limits) (entry : Entry) (cache : Cache) → PutLeaves limits entry cache
  pub forgotten_own : (site : ℕ) (cache : Cache) → list_of site (forgotten site cache) ≡ []
  pub forgotten_others : (site other : ℕ) (cache : Cache) → other ≢ site → list_of other (forgotten site cache) ≡ list_of other cache
