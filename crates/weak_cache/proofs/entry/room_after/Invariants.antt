use Rattle.weak_cache.proofs.Vocabulary.{◌≡◌, ◌+◌, ◌≤◌, length, drop, flat_map}
use Rattle.suite_prefix.specs.Bytes.{name_bytes}
use Rattle.weak_cache.proofs.entry.room_after.Given as goal

abbrev pub invariant-loop-name : goal.invariant-loop-name
invariant-loop-name l = record {
  within : l.left ≤ l.room;
  same : length (flat_map name_bytes l.names) + l.left ≡ l.room + length (flat_map name_bytes (drop l.name-index l.names));
}
