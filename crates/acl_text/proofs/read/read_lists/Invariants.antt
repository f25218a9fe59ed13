use Rattle.acl_text.proofs.Vocabulary.{◌≡◌, ◌+◌, ◌≤◌, List, ◌++◌, length, map, filter_map, SidedEntry, reading, items_left, AreTallied, readings, first_item_fault, entry_said, said_before, said_in}
use Rattle.acl_text.proofs.read.read_lists.Given as goal

-- The entries that were taken and those of the items left are all entries, and the first fault of the items left, by
-- their numbers, is that of the text.
abbrev pub invariant-loop-item : goal.invariant-loop-item
invariant-loop-item l =
    (goal.iterator-loop-item).can_next l.item-iterator
    × (goal.iterator-loop-item).is_finite l.item-iterator
    × ((taken : List SidedEntry) × AreTallied l.tallies taken × (taken ++ filter_map entry_said (map (reading l.names) (items_left l.item-iterator)) ≡ said_in l.text l.names))
    × (first_item_fault (l.number + 1) (map (reading l.names) (items_left l.item-iterator)) ≡ first_item_fault 1 (readings l.text l.names))
    × (l.number + length (items_left l.item-iterator) ≤ length l.text + 1)
    × ((taken : List SidedEntry) × AreTallied l.tallies taken × (taken ++ said_before (map (reading l.names) (items_left l.item-iterator)) ≡ said_before (readings l.text l.names)))
