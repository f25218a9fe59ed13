-- A text has no more lines than bytes.
use Rattle.script_text.proofs.Vocabulary.{ℕ, ◌+◌, ◌≤◌, List, [], ◌∷◌, length, arith, slice_split, onto_first, cases_Bool, slice_split-cons_yes, slice_split-cons_no}
use Rattle.std.specs.Str.Lines.{lines, lines_of_parts}

-- one line and no more
last_one : (part : List ℕ) → length (lines_of_parts (part ∷ [])) ≤ 1
last_one part = search arith

-- an empty part adds a line
pub count_after_feed : (parts : List (List ℕ)) → length (lines_of_parts ([] ∷ parts)) ≤ 1 + length (lines_of_parts parts)
count_after_feed [] = last_one []
count_after_feed (part ∷ parts) = omega arith

-- a longer first part adds one at most
count_longer : (b : ℕ) (parts : List (List ℕ)) → length (lines_of_parts (onto_first b parts)) ≤ 1 + length (lines_of_parts parts)
count_longer b parts = search arith

pub length-lines : (text : List ℕ) → length (lines text) ≤ length text
length-lines [] = omega arith
length-lines (b ∷ text) = search (cases_Bool, count_after_feed, slice_split-cons_yes, count_longer, slice_split-cons_no, length-lines text, arith)
