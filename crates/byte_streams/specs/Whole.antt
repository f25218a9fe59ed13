-- What it means to have read a stream whole, and what an error on the way tells.
use Rattle.std.specs.Prelude.{◌≡◌, ℕ, ◌+◌, ◌≤◌, ◌<◌, List, length, Option, Some, None}
use Rattle.byte_streams.specs.declared.reading.ReadError.{ReadError}
use Rattle.byte_streams.specs.declared.reading.ReadError.TheVariants.{Failed, TooLong, Memory}
use Rattle.byte_streams.specs.Streams.{one_more}

-- these are the bytes of the stream, and they are within the limit
abbrev pub IsWhole : Option (List ℕ) → ℕ → List ℕ → Type 0
IsWhole None limit bytes = length bytes ≤ limit
IsWhole (Some all) limit bytes = (bytes ≡ all) × (length bytes ≤ limit)

-- there are more bytes than the limit
abbrev pub IsTooLong : Option (List ℕ) → ℕ → Type 0
IsTooLong None limit = Unit {0}
IsTooLong (Some all) limit = limit < length all

-- a failed read was counted; too long means that there are more bytes than the limit
abbrev pub Explains : ReadError → Option (List ℕ) → ℕ → ℕ → ℕ → Type 0
Explains Failed told limit before after = after ≡ one_more before
Explains TooLong told limit before after = IsTooLong told limit
Explains Memory told limit before after = Unit {0}

-- no more than the limit was read, and this is left
abbrev pub IsWithin : Option (List ℕ) → ℕ → Option (List ℕ) → Type 0
IsWithin None limit left = Unit {0}
IsWithin (Some all) limit None = ⊥
IsWithin (Some all) limit (Some left) = length all ≤ limit + length left

-- out of memory means that no read had failed, and that no more than the limit was read
abbrev pub RanOut : ReadError → Option (List ℕ) → ℕ → Option (List ℕ) → ℕ → ℕ → Type 0
RanOut Memory told limit left before after = IsWithin told limit left × (after ≡ before)
RanOut other told limit left before after = Unit {0}
