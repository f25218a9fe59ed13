-- What a cache ends as once a reference into it has ended.
use Rattle.std.specs.Prelude.{◌≡◌, ⊤}
use Rattle.std.specs.Borrow.{Fml, MutBor, follows_so}
use mathlib.Core.Option.{none}
use Rattle.weak_cache.specs.Entries.{Cache}
use Rattle.weak_cache.specs.Cache.{Limited}
use Rattle.weak_cache.specs.contracts.cache.WeakCache.{the_row}

-- it has these entries
abbrev pub EndsWith : MutBor Limited → Cache → Fml
EndsWith cache entries = follows_so the_row the_row cache.ghost_name none (λ _ _. ⊤) (λ after. after ≡ record cache.now { entries = entries })
