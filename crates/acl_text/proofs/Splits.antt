-- Parts between separators, by the place of the first one.
use Rattle.acl_text.proofs.Vocabulary.{◌≡◌, ℕ, ◌+◌, ◌-◌, ◌<◌, ◌≤◌, ◌==◌, Bool, List, [], ◌∷◌, Some, None, get_or, length, take, drop, refl, sym, inl, inr, arith, slice_split, position_or_len, cases_Bool, false_from_ne_true, take_rest}
use Rattle.acl_text.proofs.Vocabulary.{position_or_len_is, slice_split_first, slice_split-cons_no, parts}
use Rattle.memchr.specs.Find.{IsFirstByte, is_byte}

-- where no separator is found, all is one part
pub split_whole : (p : ℕ → Bool) (bytes : List ℕ) → length bytes ≤ position_or_len p bytes → slice_split p bytes ≡ bytes ∷ []
split_whole p [] none = refl
split_whole p (byte ∷ bytes) none = search (cases_Bool, slice_split-cons_no, split_whole p bytes, arith)

-- the part before the first separator, and the parts after it
pub split_at_first : (separator : ℕ) (bytes : List ℕ) (place : ℕ) → place ≡ position_or_len (λ b. b == separator) bytes → place < length bytes
    → parts separator bytes ≡ take place bytes ∷ parts separator (take (length bytes - (place + 1)) (drop (place + 1) bytes))
split_at_first separator bytes place is inside = search (take_rest, slice_split_first, arith)

-- there is at least one part
pub some_part : (p : ℕ → Bool) (bytes : List ℕ) → (first : List ℕ) × (rest : List (List ℕ)) × (slice_split p bytes ≡ first ∷ rest)
some_part p [] = ([], [], refl)
some_part p (byte ∷ bytes) =
    let later = some_part p bytes in
    elim (cases_Bool (p byte)) [
      | inl separates ↦ ([], slice_split p bytes, rw separates refl)
      | inr other ↦ (byte ∷ later.0, later.1, rw (slice_split-cons_no p byte bytes other, later.2) refl)
    ]

-- the first place of a byte, as a search finds it
pub first_place : (byte : ℕ) (bytes : List ℕ) (place : ℕ) → IsFirstByte (is_byte byte) bytes (Some place) → (place ≡ position_or_len (λ b. b == byte) bytes) × (place ≤ length bytes)
first_place byte bytes place found = search (position_or_len_is, false_from_ne_true, arith)

pub no_place : (byte : ℕ) (bytes : List ℕ) → IsFirstByte (is_byte byte) bytes None → length bytes ≡ position_or_len (λ b. b == byte) bytes
no_place byte bytes none =
    sym (position_or_len_is (λ (b : ℕ). b == byte) bytes (length bytes) 0 (omega arith) (λ k before. false_from_ne_true (get_or bytes k 0 == byte) (none k (omega arith) before)) (λ less. absurd (omega arith)))
