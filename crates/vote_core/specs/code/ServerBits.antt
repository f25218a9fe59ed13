-- A set of server numbers as the bits of a word.
use Rattle.std.specs.Prelude.{ℕ, zero, suc, ◌+◌, ◌^◌, ◌==◌, if◌then◌else◌}
use Rattle.std.specs.Int.{bit_at}
use Rattle.std.specs.Ordering.{nat_cmp}
use Rattle.std.specs.FinSet as set

-- the numbers below n whose bits are set
unfoldable pub set_below : ℕ → ℕ → set.FinSet nat_cmp
set_below zero bits = set.empty
set_below (suc n) bits = if bit_at bits n == 1 then set.insert (set_below n bits) n else set_below n bits

-- the word of the numbers below n in a set
unfoldable pub word_below : ℕ → set.FinSet nat_cmp → ℕ
word_below zero members = 0
word_below (suc n) members = (if set.contains members n then 2 ^ n else 0) + word_below n members
