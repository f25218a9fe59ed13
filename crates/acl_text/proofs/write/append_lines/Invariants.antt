use Rattle.acl_text.proofs.Vocabulary.{◌≡◌, ◌++◌, take, flat_map, line_text}
use Rattle.acl_text.proofs.write.append_lines.Given as goal

-- the lines of the entries so far
abbrev pub invariant-loop-entry : goal.invariant-loop-entry
invariant-loop-entry l = l.text.items ≡ l.fn.text.items ++ flat_map (line_text l.side l.mask) (take l.entry-index l.entries)
