use Rattle.acl_text.proofs.Vocabulary.{◌≡◌, ◌≤◌, length, ◌-◌, slice_get, line_feed, parts, begins_of_lines, item_place}
use Rattle.acl_text.proofs.place.item_place.Given as goal

-- the place is that of an item of the lines below
abbrev pub invariant-loop-place : goal.invariant-loop-place
invariant-loop-place l = record {
  short : length l.below ≤ length l.text;
  same : item_place l.text l.number ≡ slice_get (begins_of_lines (length l.text - length l.below) (parts line_feed l.below)) l.left;
}

abbrev pub decreases-loop-place : goal.decreases-loop-place
decreases-loop-place l = length l.below
