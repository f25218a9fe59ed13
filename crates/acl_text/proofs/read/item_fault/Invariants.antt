use Rattle.acl_text.proofs.Vocabulary.{◌≡◌, ◌+◌, ◌≤◌, length, map, reading, items_left, readings, first_item_fault}
use Rattle.acl_text.proofs.read.item_fault.Given as goal

-- The first fault of the items left, by their numbers, is that of the text.
abbrev pub invariant-loop-item : goal.invariant-loop-item
invariant-loop-item l =
    (goal.iterator-loop-item).can_next l.item-iterator
    × (goal.iterator-loop-item).is_finite l.item-iterator
    × (first_item_fault (l.number + 1) (map (reading l.names) (items_left l.item-iterator)) ≡ first_item_fault 1 (readings l.text l.names))
    × (l.number + length (items_left l.item-iterator) ≤ length l.text + 1)
