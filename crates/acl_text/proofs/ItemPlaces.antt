-- Places of parts, one part after another.
use Rattle.acl_text.proofs.Vocabulary.{◌≡◌, ℕ, ◌+◌, ◌-◌, ◌<◌, ◌≤◌, suc, List, ◌∷◌, ◌++◌, length, ap, arith, slice_get, line_feed, parts, begins, begins_of_lines, item_place}
use Rattle.acl_text.proofs.ItemCounts.{cut_length}

one_less : (n : ℕ) → n ≡ suc n - 1
one_less n = omega arith

-- the search goes on behind the first part
pub search_on : (line rest item next : List ℕ) (separator place left : ℕ) (more : List ℕ) → parts separator rest ≡ item ∷ parts separator next → length rest ≤ length line → 0 < left
    → slice_get (begins (place + (length line - length rest)) (parts separator rest) ++ more) left
    ≡ slice_get (begins (place + (length line - length next)) (parts separator next) ++ more) (left - 1)
search_on line rest item next separator place left more h8 h9 h10 = search (cut_length, one_less, arith)

-- at first all is left
pub begun_here : {A : Type 0} (line : List ℕ) (place : ℕ) (f : ℕ → A) → f place ≡ f (place + (length line - length line))
begun_here line place f = ap f (omega arith)

-- a number that is not 0 is above it
pub is_some_left : (left : ℕ) → (left ≡ 0 → ⊥) → 0 < left
is_some_left left h1 = search arith

-- the search leaves a line behind its last part
pub search_ends : (place left : ℕ) (more : List ℕ) → 0 < left → slice_get (place ∷ more) left ≡ slice_get more (left - 1)
search_ends place left more h3 = search arith

-- the places of the lines below the first
pub lines_below : (text below line next : List ℕ) → parts line_feed below ≡ line ∷ parts line_feed next → length below ≤ length text
    → begins_of_lines (length text - length below + (length line + 1)) (parts line_feed next) ≡ begins_of_lines (length text - length next) (parts line_feed next)
lines_below text below line next cut short = search (cut_length, arith)

-- at first all lines are below
pub lines_begun : (text : List ℕ) (number left : ℕ) → 1 ≤ number → left ≡ number - 1
    → item_place text number ≡ slice_get (begins_of_lines (length text - length text) (parts line_feed text)) left
lines_begun text number left h3 h4 = search arith
