-- A put in words: while there is too much, the oldest goes.
use Rattle.std.specs.Prelude.{◌≡◌, ℕ, nat_lt, Bool, ◌||◌, if◌then◌else◌, [], ◌∷◌, length, reverse}
use Rattle.weak_cache.specs.Entries.{Entry, Cache, sum_of, is_at, list_of, without}
use Rattle.weak_cache.specs.Cache.{Limits, has_room, put}

-- Here the oldest entry stands first.

-- while a site's sum is above the quota, its oldest goes
abbrev pub lets_go_at : ℕ → ℕ → Cache → Cache
lets_go_at site quota [] = []
lets_go_at site quota (oldest ∷ newer) =
    if is_at site oldest
    then if nat_lt quota (sum_of (list_of site (oldest ∷ newer)))
    then lets_go_at site quota newer
    else oldest ∷ newer
    else oldest ∷ lets_go_at site quota newer

-- whether the whole sum is above the budget, or the count above the slots
abbrev pub is_above : Limits → Cache → Bool
is_above limits cache = nat_lt limits.budget (sum_of cache) || nat_lt limits.slots (length cache)

-- while it is so, the oldest of all goes
abbrev pub lets_go : Limits → Cache → Cache
lets_go limits [] = []
lets_go limits (oldest ∷ newer) = if is_above limits (oldest ∷ newer) then lets_go limits newer else oldest ∷ newer

-- Here the newest stands first again.

-- a put: what is new goes to the front, then the site's oldest go, then the oldest of all
abbrev pub put_in_words : Limits → Entry → Cache → Cache
put_in_words limits entry cache =
    if has_room limits entry.content
    then reverse (lets_go limits (lets_go_at entry.site limits.quota (reverse (entry ∷ without entry.site entry.suite cache))))
    else without entry.site entry.suite cache

abbrev pub OldestGo : Type 0
OldestGo = (limits : Limits) (entry : Entry) (cache : Cache) → put limits entry cache ≡ put_in_words limits entry cache
