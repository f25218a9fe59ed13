use Rattle.std.proofs.Common.{◌≡◌, ◌+◌, ◌++◌, ◌≤◌, length, reverse, vec_capacity}
use Rattle.sorted_map.proofs.roomy.move_behind.Given as goal

abbrev pub invariant-loop-items : goal.invariant-loop-items
invariant-loop-items g l = record {
  all : l.items.items ++ reverse l.to.items ≡ l.fn.items.items;
  len : length l.items.items + length l.to.items ≡ length l.fn.items.items;
  least : l.keep ≤ length l.items.items;
  capacity : vec_capacity l.items ≡ vec_capacity l.fn.items;
  to_capacity : vec_capacity l.to ≡ vec_capacity l.fn.to;
}

abbrev pub decreases-loop-items : goal.decreases-loop-items
decreases-loop-items g l = length l.items.items
