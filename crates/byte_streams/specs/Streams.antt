-- What reads and writes do to the bytes that a stream tells. Of a stream that tells none nothing is said.
use Rattle.std.specs.Prelude.{◌≡◌, ℕ, ◌+◌, ◌-◌, ◌^◌, nat_lt, if◌then◌else◌, List, [], ◌++◌, take, drop, Option, Some, None}

-- a read took so many of the bytes that were left, and those are the next; none at the end alone
abbrev pub Takes : Option (List ℕ) → ℕ → List ℕ → Option (List ℕ) → Type 0
Takes None count front after = Unit {0}
Takes (Some bytes) count front after = (front ≡ take count bytes) × (after ≡ Some (drop count bytes)) × (count ≡ 0 → bytes ≡ [])

-- a write added a piece
abbrev pub Adds : Option (List ℕ) → List ℕ → Option (List ℕ) → Type 0
Adds None piece after = Unit {0}
Adds (Some bytes) piece after = after ≡ Some (bytes ++ piece)

-- a count of failures, which stays at its last value
abbrev pub one_more : ℕ → ℕ
one_more count = if nat_lt count (2 ^ 64 - 1) then count + 1 else count
