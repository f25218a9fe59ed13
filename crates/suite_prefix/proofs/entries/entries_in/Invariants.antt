use Rattle.suite_prefix.proofs.Vocabulary.{◌≡◌, ◌-◌, ◌<◌, ◌++◌, map, All, IsOk, entries_in, entry_at, entry_from, many_at, EntryShape}
use Rattle.suite_prefix.proofs.entries.entries_in.Given as goal

abbrev pub invariant-loop-place : goal.invariant-loop-place
invariant-loop-place l = record {
  so_far : l.entries.items ++ map entry_from (entries_in (l.count - l.place) l.rest) ≡ map entry_from (entries_in l.count l.bytes);
  whole : IsOk (many_at entry_at (l.count - l.place) l.rest);
  known : All (λ (entry : EntryShape). entry.permissions < 8) (entries_in (l.count - l.place) l.rest);
}
