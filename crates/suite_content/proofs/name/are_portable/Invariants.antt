use Rattle.suite_content.proofs.Vocabulary.{◌≡◌, take, list_all, is_name_byte}
use Rattle.suite_content.proofs.name.are_portable.Given as goal

abbrev pub invariant-loop-byte : goal.invariant-loop-byte
invariant-loop-byte l = l.all ≡ list_all is_name_byte (take l.byte-index l.bytes)
