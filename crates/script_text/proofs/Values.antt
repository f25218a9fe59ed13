-- Reading a number digit by digit.
use Rattle.script_text.proofs.Vocabulary.{◌≡◌, ℕ, ◌+◌, ◌-◌, ◌*◌, ◌<◌, ◌≤◌, true, false, cond, leb, ◌&&◌, List, [], ◌∷◌, Option, Some, None, length, fold, refl, ◌∙◌, ap, arith, list_all, is_ascii_digit, digit_value, cases_Bool, and_right, and_left}
use Rattle.script_text.proofs.Vocabulary.{and_parts, lt-leb, lt-ltb, number_up_to}
use Rattle.std.specs.Str.Parse.{digits_value, digits_value_after}

-- the number, where some digits were read already
abbrev pub value_from : ℕ → List ℕ → ℕ
value_from value digits = fold (λ value digit. 10 * value + (digit - 48)) value digits

abbrev pub number_from : ℕ → ℕ → List ℕ → Option ℕ
number_from value limit word = cond (list_all is_ascii_digit word && leb (value_from value word) limit) (Some (value_from value word)) None

-- more digits make no smaller number
grows : (value : ℕ) (digits : List ℕ) → value ≤ value_from value digits
grows value [] = omega arith
grows value (digit ∷ digits) = let later = grows (10 * value + (digit - 48)) digits in omega (arith, later)

-- what is too big already stays so
pub too_big : (value limit : ℕ) (word : List ℕ) → limit < value → number_from value limit word ≡ None
too_big value limit word big = search (grows, lt-leb, and_right, arith)

-- what begins with no digit is no number
pub no_digit : (value limit byte : ℕ) (word : List ℕ) → is_ascii_digit byte ≡ false → number_from value limit (byte ∷ word) ≡ None
no_digit value limit byte word other =
    ap (λ b. cond b (Some (value_from value (byte ∷ word))) None) (and_left (list_all is_ascii_digit (byte ∷ word)) (leb (value_from value (byte ∷ word)) limit) (and_left (is_ascii_digit byte) (list_all is_ascii_digit word) other))

-- a digit is read
pub one_digit : (value limit byte : ℕ) (word : List ℕ) → is_ascii_digit byte ≡ true → number_from value limit (byte ∷ word) ≡ number_from (10 * value + (byte - 48)) limit word
one_digit value limit byte word digit = ap (λ b. cond ((b && list_all is_ascii_digit word) && leb (value_from value (byte ∷ word)) limit) (Some (value_from value (byte ∷ word))) None) digit

-- a digit that does not fit makes a number above every limit that fits
pub no_room : (value limit byte : ℕ) (word : List ℕ) → limit < 10 * value + (byte - 48) → number_from value limit (byte ∷ word) ≡ None
no_room value limit byte word big = search (cases_Bool, one_digit, too_big, no_digit, arith)

-- a digit's value is its distance from that of 0
digit_is : (byte : ℕ) → is_ascii_digit byte ≡ true → digit_value byte + 48 ≡ byte
digit_is byte digit = search arith

-- std's value of a numeral is the one that is read
same_value : (value : ℕ) (digits : List ℕ) → list_all is_ascii_digit digits ≡ true → digits_value_after 10 value digits ≡ value_from value digits
same_value value [] all = refl
same_value value (byte ∷ digits) all =
    let parts = and_parts (is_ascii_digit byte) (list_all is_ascii_digit digits) all in
    let is = digit_is byte parts.0 in
    let next : value * 10 + digit_value byte ≡ 10 * value + (byte - 48) = omega (arith, is) in
    ap (λ n. digits_value_after 10 n digits) next ∙ same_value (10 * value + (byte - 48)) digits parts.1

-- so it may be read in place of std's
number_by_value : (limit : ℕ) (word : List ℕ) → cond (list_all is_ascii_digit word && leb (digits_value 10 word) limit) (Some (digits_value 10 word)) None ≡ number_from 0 limit word
number_by_value limit word = search (cases_Bool, same_value, and_left, arith)

-- a word that is not empty
pub number_of_some : (limit : ℕ) (word : List ℕ) → 0 < length word → number_up_to limit word ≡ number_from 0 limit word
number_of_some limit word h2 = search (lt-ltb, number_by_value, arith)
