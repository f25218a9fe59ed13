use Rattle.suite_content.proofs.Vocabulary.{◌≡◌, ◌≤◌, ◌++◌, take, flat_map, numbered_bytes}
use Rattle.suite_content.proofs.gathering.append_numbered.Given as goal

abbrev pub invariant-loop-name : goal.invariant-loop-name
invariant-loop-name l =
    (l.end ≤ 1024) ×
    (l.out.items ++ take l.end l.gathered ≡ l.fn.out.items ++ flat_map numbered_bytes (take l.name-index l.names))
