use Rattle.acl_text.proofs.Vocabulary.{take, IsReadOf}
use Rattle.acl_text.proofs.item.permissions.Given as goal

-- the letters of the bytes so far
abbrev pub invariant-loop-byte : goal.invariant-loop-byte
invariant-loop-byte l = IsReadOf l.letters (take l.byte-index l.field)
