-- Versions that are not used up: what an agent keeps and is told, so that each copy can get a version more.
use Rattle.std.specs.Prelude.{◌≡◌, ℕ, Bool, true, false, ◌&&◌, not, Contains, Option, Some, None}
use Rattle.rep_core.specs.Store.{is_used_up}
use Rattle.rep_core.specs.declared.reply.Reply.{Reply}
use Rattle.rep_core.specs.declared.reply.Reply.TheVariants.{Held}
use Rattle.suite_collect.specs.declared.told.Said.{Said}
use Rattle.suite_collect.specs.declared.told.Said.TheVariants as told
use Rattle.suite_collect.specs.Telling.{newest, shown}
use Rattle.suite_collect.specs.Collecting.{Collector}
use Rattle.weak_cache.specs.Entries.{Entry, Cache}
use Rattle.txn_core.specs.Suites.{ReadPoint}

-- of the prefixes in a cache
abbrev pub HasUnused : Cache → Type 0
HasUnused cache = (entry : Entry) → Contains cache entry → is_used_up entry.prefix.pver ≡ false

-- of the newest prefix, and of the contents that were shown, before a widening
pub record SawUnused (c : Collector) : Type 0 where
  pub prefix : is_used_up (newest c.start c.told).pver ≡ false
  pub shown : (server : ℕ) → is_used_up (shown c.told server) ≡ false

-- of a prefix and a content that a reply shows
abbrev pub shows_unused : Reply → Bool
shows_unused (Held prefix dver) = not (is_used_up prefix.pver) && not (is_used_up dver)
shows_unused _ = true

-- and of those that were told
abbrev pub says_unused : Said → Bool
says_unused (told.Held prefix dver) = not (is_used_up prefix.pver) && not (is_used_up dver)
says_unused other = true

-- of a prefix and a content that a quorum gave, and of those that the first quorum of a suite gave, where it had one
pub record GaveUnused (point : ReadPoint) : Type 0 where
  pub prefix : is_used_up point.prefix.pver ≡ false
  pub content : is_used_up point.dver ≡ false

abbrev pub first_unused : Option ReadPoint → Bool
first_unused (Some point) = not (is_used_up point.prefix.pver) && not (is_used_up point.dver)
first_unused None = true
