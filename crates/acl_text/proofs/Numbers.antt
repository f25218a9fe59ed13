-- The number that decimal digits write, digit by digit.
use Rattle.acl_text.proofs.Vocabulary.{◌≡◌, ℕ, ◌+◌, ◌-◌, ◌*◌, ◌<◌, ◌≤◌, true, List, length, get_or, take, Some, None, ◌∙◌, ap, arith, is_ascii_digit, digit_value, digits_value, nat_tests, id_of, max_id}
use Rattle.std.proofs.lemmas.Int.Digits.{digits_value_more}
use Rattle.std.proofs.lemmas.Str.Parse.{digits_value-take-le}

-- what a digit adds
pub value_of_digit : (d : ℕ) → is_ascii_digit d ≡ true → digit_value d ≡ d - 48
value_of_digit d digit = grind (arith, nat_tests)

-- one digit more
pub number_more : (digits : List ℕ) (i : ℕ) → is_ascii_digit (get_or digits i 0) ≡ true → i < length digits
    → digits_value 10 (take (i + 1) digits) ≡ digits_value 10 (take i digits) * 10 + (get_or digits i 0 - 48)
number_more digits i digit inside = digits_value_more 10 digits i inside ∙ ap (λ v. digits_value 10 (take i digits) * 10 + v) (value_of_digit (get_or digits i 0) digit)

-- a number that is too big after some digits is too big
pub too_big : (digits : List ℕ) (i n : ℕ) → n ≡ digits_value 10 (take i digits) → max_id < n → id_of digits ≡ None
too_big digits i n is big = search (digits_value-take-le, nat_tests, arith)

pub fits : (digits : List ℕ) (n : ℕ) → n ≡ digits_value 10 digits → n ≤ max_id → Some n ≡ id_of digits
fits digits n is small = search arith
