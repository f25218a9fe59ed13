-- The front of a list of bytes as one number, by which most lists are told apart at once.
use Rattle.std.specs.Prelude.{ℕ, zero, suc, ◌+◌, ◌*◌, List, drop, slice_index_or}

-- the number a with n bytes more: the first ones of a list, and zeros behind a shorter one
abbrev pub number_with : ℕ → ℕ → List ℕ → ℕ
number_with a zero bytes = a
number_with a (suc n) bytes = number_with (a * 256 + slice_index_or bytes 0 0) n (drop 1 bytes)

-- the first n bytes as a number
abbrev pub front : ℕ → List ℕ → ℕ
front n bytes = number_with 0 n bytes
