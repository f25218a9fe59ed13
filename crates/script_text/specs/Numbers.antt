-- Numbers as words: decimal digits, leading zeros allowed.
use Rattle.std.specs.Prelude.{ℕ, nat_lt, nat_le, Bool, ◌&&◌, if◌then◌else◌, List, length, Option, Some, None}
use Rattle.std.specs.List.{list_all}
use Rattle.std.specs.Char.{is_ascii_digit}
use Rattle.std.specs.Str.Parse.{digits_value}

-- a word of digits alone
abbrev pub is_number : List ℕ → Bool
is_number word = nat_lt 0 (length word) && list_all is_ascii_digit word

-- the number that a word spells, where it spells one up to a limit
abbrev pub number_up_to : ℕ → List ℕ → Option ℕ
number_up_to limit word = if is_number word && nat_le (digits_value 10 word) limit then Some (digits_value 10 word) else None
