-- What stays beside a new entry.
use Rattle.std.specs.Prelude.{ℕ, ◌-◌, nat_le, if◌then◌else◌, Option, Some, None}
use Rattle.weak_cache.specs.Entries.{Cache, without}
use Rattle.weak_cache.specs.Cache.{Limits, within_quota, within_budget}
use Rattle.weak_cache.specs.declared.stock.Beside.{Beside}

-- the entries that stay beside one of a site and a suite that is put, which leaves so much of the quota, the budget and
-- the slots
abbrev pub stays : ℕ → ℕ → ℕ → ℕ → ℕ → Cache → Cache
stays site suite quota budget slots cache = within_budget budget slots (within_quota site quota (without site suite cache))

-- the room beside an entry of this size
abbrev pub room_beside : Limits → ℕ → ℕ → ℕ → Beside
room_beside limits site suite size = record { site = site; suite = suite; quota = limits.quota - size; budget = limits.budget - size; slots = limits.slots - 1 }

-- what is left of a site's room, while all of its entries so far had room
abbrev pub room_after : Option ℕ → ℕ → Option ℕ
room_after (Some room) size = if nat_le size room then Some (room - size) else None
room_after None size = None
