use Rattle.suite_prefix.proofs.Vocabulary.{◌≡◌, [], ◌∷◌, ◌++◌, length, take, flat_map, entry_bytes}
use Rattle.suite_prefix.proofs.writing.put_list.Given as goal

abbrev pub invariant-loop-entry : goal.invariant-loop-entry
invariant-loop-entry l = l.out.items ≡ (l.fn.out.items ++ length l.entries ∷ []) ++ flat_map entry_bytes (take l.entry-index l.entries)
