-- A text has no more items than bytes, and one.
use Rattle.acl_text.proofs.Vocabulary.{◌≡◌, ℕ, ◌+◌, ◌≤◌, Bool, eqb, List, [], ◌∷◌, length, refl, ap, arith, length-append, slice_split, flat_map, cases_Bool, length-take, slice_split-cons_no, items_of, items_of_line, parts, line_feed}
use Rattle.acl_text.proofs.Splits.{some_part}

-- the bytes of some lines, each counted with an end of its own
room : List (List ℕ) → ℕ
room [] = 0
room (line ∷ lines) = length line + 1 + room lines

room-slice_split : (p : ℕ → Bool) (bytes : List ℕ) → room (slice_split p bytes) ≡ length bytes + 1
unfolding room
room-slice_split p [] = refl
room-slice_split p (byte ∷ bytes) = search (some_part, cases_Bool, room, slice_split-cons_no, room-slice_split p bytes, arith)

-- a part, its separator and what follows are all bytes
pub cut_length : (separator : ℕ) (bytes item next : List ℕ) → parts separator bytes ≡ item ∷ parts separator next → length bytes ≡ length item + 1 + length next
unfolding room
cut_length separator bytes item next cut =
    let whole = room-slice_split (λ b. eqb b separator) bytes in
    let rest = room-slice_split (λ b. eqb b separator) next in
    let same : room (parts separator bytes) ≡ length item + 1 + room (parts separator next) = ap room cut in
    omega (arith, whole, rest, same)

-- there are as many parts as separators, and one
few_parts : (p : ℕ → Bool) (bytes : List ℕ) → length (slice_split p bytes) ≤ length bytes + 1
few_parts p [] = omega arith
few_parts p (byte ∷ bytes) = search (some_part, cases_Bool, slice_split-cons_no, few_parts p bytes, arith)

few_in_line : (line : List ℕ) → length (items_of_line line) ≤ length line + 1
few_in_line line = search (length-take, few_parts, arith)

few_in_lines : (lines : List (List ℕ)) → length (flat_map items_of_line lines) ≤ room lines
unfolding room
few_in_lines [] = omega arith
few_in_lines (line ∷ lines) = search (few_in_line, length-append, few_in_lines lines, arith)

pub few_items : (text : List ℕ) → length (items_of text) ≤ length text + 1
few_items text = omega (arith, few_in_lines (parts line_feed text), room-slice_split (λ b. eqb b line_feed) text)
