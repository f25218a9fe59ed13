-- Numbers between separators, read from the left.
use Rattle.script_text.proofs.Vocabulary.{◌≡◌, ℕ, ◌+◌, ◌-◌, ◌*◌, ◌<◌, true, false, cond, eqb, ltb, List, [], ◌∷◌, Option, length, map, drop, get_or, ◌∙◌, ap, sym, inl, inr, arith, slice_split, onto_first, is_ascii_digit, cases_Bool, ltb-false}
use Rattle.script_text.proofs.Vocabulary.{lt-ltb, drop_more, slice_split-cons_no, length-slice_split, number_up_to}
use Rattle.script_text.proofs.Values.{number_from, number_of_some, one_digit}

-- the numbers of parts, where so many digits of the first were read already, and have this value
abbrev pub numbers_from : ℕ → ℕ → ℕ → List (List ℕ) → List (Option ℕ)
numbers_from digits value limit [] = []
numbers_from digits value limit (part ∷ parts) = cond (ltb 0 digits) (number_from value limit part) (number_up_to limit part) ∷ map (number_up_to limit) parts

-- a part that begins with a byte is read from its value on
begun : (digits value limit byte : ℕ) (part : List ℕ) (parts : List (List ℕ)) → (digits ≡ 0 → value ≡ 0) → numbers_from digits value limit ((byte ∷ part) ∷ parts) ≡ number_from value limit (byte ∷ part) ∷ map (number_up_to limit) parts
begun digits value limit byte part parts none =
    elim (cases_Bool (ltb 0 digits)) [
      | inl some ↦ ap (λ b. cond b (number_from value limit (byte ∷ part)) (number_up_to limit (byte ∷ part)) ∷ map (number_up_to limit) parts) some
      | inr zero ↦
          let low = ltb-false 0 digits zero in
          let is : value ≡ 0 = none (omega (arith, low)) in
          ap (λ b. cond b (number_from value limit (byte ∷ part)) (number_up_to limit (byte ∷ part)) ∷ map (number_up_to limit) parts) zero
          ∙ ap (λ n. n ∷ map (number_up_to limit) parts) (number_of_some limit (byte ∷ part) (omega arith) ∙ ap (λ v. number_from v limit (byte ∷ part)) (sym is))
    ]

-- a digit more
digit_first : (digits value limit byte : ℕ) (parts : List (List ℕ)) → 0 < length parts → (digits ≡ 0 → value ≡ 0) → is_ascii_digit byte ≡ true
    → numbers_from digits value limit (onto_first byte parts) ≡ numbers_from (digits + 1) (10 * value + (byte - 48)) limit parts
digit_first digits value limit byte parts h5 h6 h7 = search (lt-ltb, begun, one_digit, number_from, arith)

module _ (separator value limit place : ℕ) (word : List ℕ) (inside : place < length word) where
  at_byte : eqb (get_or word place 0) separator ≡ false → slice_split (λ b. eqb b separator) (drop place word) ≡ onto_first (get_or word place 0) (slice_split (λ b. eqb b separator) (drop (place + 1) word))
  at_byte other = ap (slice_split (λ b. eqb b separator)) (drop_more word place 0 inside) ∙ slice_split-cons_no (λ b. eqb b separator) (get_or word place 0) (drop (place + 1) word) other

  pub digit_read : eqb (get_or word place 0) separator ≡ false → (place ≡ 0 → value ≡ 0) → is_ascii_digit (get_or word place 0) ≡ true
      → numbers_from place value limit (slice_split (λ b. eqb b separator) (drop place word)) ≡ numbers_from (place + 1) (10 * value + (get_or word place 0 - 48)) limit
      (slice_split (λ b. eqb b separator) (drop (place + 1) word))
  digit_read other none digit = search (length-slice_split, at_byte, digit_first, arith)
