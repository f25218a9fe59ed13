use Rattle.suite_content.proofs.Vocabulary.{◌≡◌, ◌≤◌, ◌++◌, codes, take, flat_map}
use Rattle.suite_content.proofs.gathering.append_behind_commas.Given as goal

abbrev pub invariant-loop-name : goal.invariant-loop-name
invariant-loop-name l =
    (l.end ≤ 1024) ×
    (l.out.items ++ take l.end l.gathered ≡ l.fn.out.items ++ flat_map (λ entry. codes "," ++ entry.0) (take l.name-index l.names))
