use Rattle.std.proofs.Common.{◌≡◌, ◌+◌, ◌≤◌, length, take}
use Rattle.rep_core.proofs.copying.copied.Given as goal

abbrev pub invariant-loop-key : goal.invariant-loop-key
invariant-loop-key g l = record {
  pairs : l.map.pairs ≡ take l.key-index l.pairs;
  room : length l.pairs ≤ l.map.room + l.key-index;
}
