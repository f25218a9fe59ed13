use Rattle.acl_text.proofs.Vocabulary.{◌≡◌, ℕ, ◌≤◌, List, ◌++◌, length, ◌+◌, ◌-◌, slice_get, comma, parts, begins}
use Rattle.acl_text.proofs.place.place_in.Given as goal

-- the place is that of a part of the rest
abbrev pub invariant-loop-left : goal.invariant-loop-left
invariant-loop-left l = record {
  short : length l.rest ≤ length l.line;
  same : (place : ℕ) (more : List ℕ) →
      slice_get (begins place (parts comma l.line) ++ more) l.number
      ≡ slice_get (begins (place + (length l.line - length l.rest)) (parts comma l.rest) ++ more) l.left;
}

abbrev pub decreases-loop-left : goal.decreases-loop-left
decreases-loop-left l = length l.rest
