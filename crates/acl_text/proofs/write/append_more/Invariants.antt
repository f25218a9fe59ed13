use Rattle.acl_text.proofs.Vocabulary.{◌≡◌, ◌++◌, take, flat_map, next_text}
use Rattle.acl_text.proofs.write.append_more.Given as goal

-- the entries so far, each with a comma before it
abbrev pub invariant-loop-entry : goal.invariant-loop-entry
invariant-loop-entry l = l.text.items ≡ l.fn.text.items ++ flat_map (next_text l.side) (take l.entry-index l.entries)
