use Rattle.suite_prefix.proofs.Vocabulary.{◌≡◌, take, map, entry_from}
use Rattle.suite_prefix.proofs.decoding.put_entries.Given as goal

abbrev pub invariant-loop-i : goal.invariant-loop-i
invariant-loop-i l = take l.i l.entries ≡ map entry_from (take l.i l.shapes)
