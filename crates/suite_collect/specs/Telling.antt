-- What servers said to a collector, as one list, the newest first; and what follows from it.
use Rattle.std.specs.Prelude.{ℕ, ◌==◌, nat_lt, Bool, true, false, ◌&&◌, not, max, if◌then◌else◌, List, [], ◌∷◌, Option, Some, None}
use Rattle.std.specs.List.{list_any}
use Rattle.suite_prefix.specs.declared.copies.Prefix.{Prefix}
use Rattle.suite_prefix.specs.declared.lock_mode.LockMode.{LockMode}
use Rattle.suite_prefix.specs.LockModes.{serves}
use Rattle.suite_collect.specs.declared.told.Said.{Said}
use Rattle.suite_collect.specs.declared.told.Said.TheVariants.{Held, Busy, Down}
use Rattle.suite_collect.specs.declared.told.Told.{Told}

abbrev pub is_held : Said → Bool
is_held (Held prefix dver) = true
is_held (Busy holder) = false
is_held Down = false

abbrev pub is_down : Said → Bool
is_down (Held prefix dver) = false
is_down (Busy holder) = false
is_down Down = true

abbrev pub is_busy_with : ℕ → Said → Bool
is_busy_with holder (Held prefix dver) = false
is_busy_with holder (Busy other) = other == holder
is_busy_with holder Down = false

-- the newer of two prefixes, the first where neither is
abbrev pub newer : Prefix → Said → Prefix
newer prefix (Held other dver) = if nat_lt prefix.pver other.pver then other else prefix
newer prefix (Busy holder) = prefix
newer prefix Down = prefix

-- the newest prefix seen
abbrev pub newest : Prefix → List Told → Prefix
newest start [] = start
newest start (last ∷ told) = newer (newest start told) last.said

-- whether a server said something of a kind
abbrev pub has_told : (Told → Bool) → List Told → ℕ → Bool
has_told kind told server = list_any (λ one. (one.server == server) && kind one) told

-- whether a server holds a lock for this transaction, in this mode or a stronger one
abbrev pub holds : LockMode → List Told → ℕ → Bool
holds mode told server = has_told (λ one. is_held one.said && serves one.mode mode) told server

-- whether a server was found down or busy
abbrev pub has_refused : List Told → ℕ → Bool
has_refused told server = has_told (λ one. not (is_held one.said)) told server

-- the version of the content that a server showed last
abbrev pub version_in : Said → ℕ → ℕ
version_in (Held prefix dver) before = dver
version_in (Busy holder) before = before
version_in Down before = before

abbrev pub shown : List Told → ℕ → ℕ
shown [] server = 0
shown (last ∷ told) server = if last.server == server then version_in last.said (shown told server) else shown told server

-- the greatest version that some servers showed
abbrev pub greatest : List Told → List ℕ → ℕ
greatest told [] = 0
greatest told (server ∷ servers) = max (shown told server) (greatest told servers)

-- the first server found busy, with the transaction in its way
abbrev pub busy_in : ℕ → Said → Option (ℕ × ℕ) → Option (ℕ × ℕ)
busy_in server said (Some first) = Some first
busy_in server (Busy holder) None = Some (server, holder)
busy_in server (Held prefix dver) None = None
busy_in server Down None = None

abbrev pub first_busy : List Told → Option (ℕ × ℕ)
first_busy [] = None
first_busy (last ∷ told) = busy_in last.server last.said (first_busy told)
